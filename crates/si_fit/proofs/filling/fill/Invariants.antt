use Rattle.std.proofs.Common.{length, drop, ◌-◌, ◌≤◌}
use Rattle.std.specs.List.{AllByRecursion}
use Rattle.si_fit.specs.Fresh.{IsNew}
use Rattle.si_fit.proofs.WalkLaws.{IsWalking}
use Rattle.si_fit.proofs.filling.fill.Given as goal

pub record Invariant (walking within new : Type 0) : Type 0 where
  pub is_walking : walking
  pub left_within : within
  pub still_new : new

abbrev pub invariant-loop-j : goal.invariant-loop-j
invariant-loop-j l =
    Invariant (IsWalking l.slots l.left l.right l.fn.trail l.trail l.i l.j) (l.i ≤ length l.left)
    (AllByRecursion (IsNew l.slots l.trail.pairs l.left) (drop l.j l.right))

abbrev pub decreases-loop-j : goal.decreases-loop-j
decreases-loop-j l = length l.right - l.j
