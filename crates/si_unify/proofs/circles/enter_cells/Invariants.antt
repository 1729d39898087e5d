use Rattle.std.proofs.Common.{◌+◌, ◌≤◌, take, reverse, length}
use Rattle.std.specs.Prelude.{vec_capacity}
use Rattle.si_unify.specs.Circles.{AreEntered}
use Rattle.si_unify.proofs.circles.enter_cells.Given as goal

pub record Invariant (entered few keeps : Type 0) : Type 0 where
  pub entered_so_far : entered
  pub few_so_far : few
  pub room_so_far : keeps

abbrev pub invariant-loop-cell : goal.invariant-loop-cell
invariant-loop-cell l =
    Invariant (AreEntered l.slots l.trail.pairs (take l.cell-index l.value) (reverse l.fn.visits.items) (reverse l.visits.items))
    (length l.visits.items ≤ length l.fn.visits.items + l.cell-index)
    (vec_capacity l.fn.visits ≤ vec_capacity l.visits)
