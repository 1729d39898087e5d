use Rattle.std.proofs.Common.{◌≤◌}
use Rattle.si_unify.specs.Circles.{AreResolved}
use Rattle.si_unify.proofs.circles.are_resolved.Given as goal

abbrev pub invariant-loop-n : goal.invariant-loop-n
invariant-loop-n l = (l.mark ≤ l.n) × AreResolved l.slots l.trail.pairs l.mark l.n
