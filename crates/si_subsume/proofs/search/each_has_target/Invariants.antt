use Rattle.std.proofs.Common.{take}
use Rattle.std.specs.List.{AllByRecursion}
use Rattle.si_subsume.specs.Heads.{slice_head, HasTargetByHead}
use Rattle.si_subsume.proofs.search.each_has_target.Given as goal

abbrev pub invariant-loop-i : goal.invariant-loop-i
invariant-loop-i l = AllByRecursion (λ literal. HasTargetByHead l.task.targets.now (slice_head literal)) (take l.i l.task.literals.now)
