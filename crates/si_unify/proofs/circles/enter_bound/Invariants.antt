use Rattle.std.proofs.Common.{◌≤◌, length, reverse}
use Rattle.std.specs.Prelude.{vec_capacity}
use Rattle.si_unify.specs.Circles.{AreEntries}
use Rattle.si_unify.proofs.circles.enter_bound.Given as goal

pub record Invariant (entered within few keeps : Type 0) : Type 0 where
  pub entered_so_far : entered
  pub still_within : within
  pub few_so_far : few
  pub room_so_far : keeps

abbrev pub invariant-loop-n : goal.invariant-loop-n
invariant-loop-n l =
    Invariant (AreEntries l.trail.pairs l.mark l.n (reverse l.visits.items))
    (l.n ≤ length l.trail.pairs)
    (length l.visits.items ≤ l.n)
    (vec_capacity l.fn.visits ≤ vec_capacity l.visits)
