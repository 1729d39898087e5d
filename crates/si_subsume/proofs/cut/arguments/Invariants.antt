use Rattle.std.proofs.Common.{length, ◌-◌}
use Rattle.si_subsume.proofs.Arguments.{IsCutting}
use Rattle.si_subsume.proofs.cut.arguments.Given as goal

abbrev pub invariant-loop-at : goal.invariant-loop-at
invariant-loop-at l = IsCutting l.cells l.list.items l.at

abbrev pub decreases-loop-at : goal.decreases-loop-at
decreases-loop-at l = length l.cells - l.at
