use Rattle.std.proofs.Common.{◌≡◌, ◌≤◌, ◌+◌, ◌++◌, length, drop}
use Rattle.std.specs.Vec.{vec_len, vec_capacity}
use Rattle.si_tree.specs.Slots.{standing}
use Rattle.si_tree.proofs.postings.Postings.append_to.Given as goal

abbrev pub invariant-loop-slot : goal.invariant-loop-slot
invariant-loop-slot l =
    (l.others.items ++ standing (drop l.slot-index l.slot-items) ≡ l.fn.others.items ++ standing l.slot-items)
    × (vec_len l.others + length (standing (drop l.slot-index l.slot-items)) ≤ vec_capacity l.others)
    × (vec_capacity l.fn.others ≤ vec_capacity l.others)
