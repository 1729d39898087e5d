use Rattle.std.proofs.Common.{◌≡◌, length}
use Rattle.si_form.specs.Unifying.{AreUses}
use Rattle.si_form.proofs.unifying.uses_of_sides.Given as goal

abbrev pub invariant-loop-slot : goal.invariant-loop-slot
invariant-loop-slot l = (length l.lists.items ≡ l.slot) × AreUses l.slots l.rights l.lists.items
