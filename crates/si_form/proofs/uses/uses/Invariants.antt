use Rattle.std.proofs.Common.{◌≡◌, length}
use Rattle.si_form.specs.Uses.{UsesBelow}
use Rattle.si_form.proofs.uses.uses.Given as goal

abbrev pub invariant-loop-slot : goal.invariant-loop-slot
invariant-loop-slot l = (length l.lists.items ≡ l.slot) × UsesBelow l.slots l.trail.pairs l.lists.items
