use Rattle.std.proofs.Common.{take}
use Rattle.si_subsume.specs.Maps.{AreNumberedBelow}
use Rattle.si_subsume.proofs.variables.limit.Given as goal

abbrev pub invariant-loop-i : goal.invariant-loop-i
invariant-loop-i l = AreNumberedBelow l.owner l.limit (take l.i l.cells)
