use Rattle.std.proofs.Common.{◌≡◌, length}
use Rattle.si_form.specs.Unifying.{HaveRightSides}
use Rattle.si_form.proofs.unifying.right_sides.Given as goal

abbrev pub invariant-loop-slot : goal.invariant-loop-slot
invariant-loop-slot l = (length l.rights.items ≡ l.slot) × HaveRightSides l.slots l.trail.pairs l.rights.items
