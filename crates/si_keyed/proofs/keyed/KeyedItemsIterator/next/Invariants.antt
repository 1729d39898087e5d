use Rattle.std.proofs.Common.{◌≡◌, length}
use Rattle.si_keyed.specs.KeyedSlots.{kept}
use Rattle.si_keyed.proofs.keyed.KeyedItemsIterator.next.Given as goal

-- only holes were passed over
abbrev pub invariant-loop-slot : goal.invariant-loop-slot
invariant-loop-slot g l = kept l.self-inside.slots.now ≡ l.fn.self

abbrev pub decreases-loop-slot : goal.decreases-loop-slot
decreases-loop-slot g l = length l.self-inside.slots.now
