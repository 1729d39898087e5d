use Rattle.std.proofs.Common.{take}
use Rattle.si_form.specs.Unifying.{ListsBindings}
use Rattle.si_form.proofs.unifying.list.Given as goal

abbrev pub invariant-loop-slot : goal.invariant-loop-slot
invariant-loop-slot l = ListsBindings l.slots l.rights (take l.slot-index l.order) l.solution
