use Rattle.si_form.proofs.VariableCounts.{IsCounting}
use Rattle.si_form.proofs.variables.count_variables.Given as goal

abbrev pub invariant-loop-at : goal.invariant-loop-at
invariant-loop-at l = IsCounting l.owner l.cells l.at l.count
