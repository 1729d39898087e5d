use Rattle.std.proofs.Common.{◌+◌, ◌-◌, ◌*◌, ◌≤◌, length}
use Rattle.si_fit.proofs.WalkLaws.{IsWalking}
use Rattle.si_fit.proofs.walking.+walking.Given as goal

abbrev pub decreases-walk : goal.decreases-walk
decreases-walk l = 4 * l.budget.now + 3

abbrev pub decreases-meet : goal.decreases-meet
decreases-meet l = 4 * l.budget.now + 2

abbrev pub decreases-meet_fixed : goal.decreases-meet_fixed
decreases-meet_fixed l = 4 * l.budget.now + 1

abbrev pub decreases-meet_unbound : goal.decreases-meet_unbound
decreases-meet_unbound l = 4 * l.budget.now + 1

abbrev pub decreases-follow : goal.decreases-follow
decreases-follow l = 4 * l.budget.now

pub record Invariant (walking within few : Type 0) : Type 0 where
  pub is_walking : walking
  pub left_within : within
  pub fewer : few

abbrev pub invariant-walk-loop-j : goal.invariant-walk-loop-j
invariant-walk-loop-j l =
    Invariant (IsWalking l.slots l.left l.right l.fn.trail l.trail l.i l.j) (l.i ≤ length l.left) (l.budget ≤ l.fn.budget)

abbrev pub decreases-walk-loop-j : goal.decreases-walk-loop-j
decreases-walk-loop-j l = length l.right - l.j
