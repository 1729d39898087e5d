use Rattle.si_form.proofs.AscendingLaws.{ListsBelow}
use Rattle.si_form.proofs.direct.list_values.Given as goal

abbrev pub invariant-loop-slot : goal.invariant-loop-slot
invariant-loop-slot l = ListsBelow l.slots l.trail.pairs l.slot l.solution
