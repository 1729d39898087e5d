use Rattle.std.proofs.Common.{◌≡◌, ◌<◌, length, slice_get, drop}
use Rattle.si_tree.specs.Slots.{standing}
use Rattle.si_tree.proofs.postings.Postings.at.Given as goal

abbrev pub invariant-loop-slot : goal.invariant-loop-slot
invariant-loop-slot l =
    (l.left < length (standing (drop l.slot-index l.slot-items)))
    × (slice_get (standing (drop l.slot-index l.slot-items)) l.left ≡ slice_get (standing l.slot-items) l.n)
