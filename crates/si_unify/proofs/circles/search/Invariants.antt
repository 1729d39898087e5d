use Rattle.std.proofs.Common.{◌≡◌, ◌≤◌, length, reverse}
use Rattle.std.specs.Prelude.{vec_capacity}
use Rattle.si_unify.specs.Circles.{AreNoMore, work}
use Rattle.si_unify.proofs.Searching.{IsSearchUnderway}
use Rattle.si_unify.proofs.circles.search.Given as goal

pub record Invariant (underway no_more keeps same : Type 0) : Type 0 where
  pub searched_so_far : underway
  pub no_more_so_far : no_more
  pub room_so_far : keeps
  pub states_room : same

abbrev pub invariant-loop-visit : goal.invariant-loop-visit
invariant-loop-visit l =
    Invariant (IsSearchUnderway l.slots l.trail.pairs l.fn.states.items l.states.items (reverse l.fn.visits.items) (reverse l.visits.items))
    (AreNoMore l.slots l.trail.pairs l.fn.states.items l.states.items (length l.fn.visits.items) (length l.visits.items))
    (vec_capacity l.fn.visits ≤ vec_capacity l.visits)
    (l.states.room ≡ l.fn.states.room)

abbrev pub decreases-loop-visit : goal.decreases-loop-visit
decreases-loop-visit l = work l.states.items (reverse l.visits.items)
