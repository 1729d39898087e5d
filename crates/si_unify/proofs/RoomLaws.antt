-- Rooms, and what is enough.
use Rattle.std.proofs.Common.{ℕ, ◌≤◌, length, arith}
use Rattle.si_defs.proofs.ListLaws.{all_weaker}
use Rattle.si_unify.specs.declared.slots.Slots.{Slots}
use Rattle.si_unify.specs.Solving.{Pairs}
use Rattle.si_unify.specs.Rooms.{SolverRoom, IsNoLessRoom, AreNoLongerThan, IsEnoughToSolve}

pub same_room : (room : SolverRoom) → IsNoLessRoom room room
same_room room = record { heights = omega arith; states = omega arith; visits = omega arith; spot_pairs = omega arith }

pub room_on : (old mid new : SolverRoom) → IsNoLessRoom old mid → IsNoLessRoom mid new → IsNoLessRoom old new
room_on old mid new a b = record {
  heights = omega (arith, a.heights, b.heights);
  states = omega (arith, a.states, b.states);
  visits = omega (arith, a.visits, b.visits);
  spot_pairs = omega (arith, a.spot_pairs, b.spot_pairs);
}

-- what was enough is enough still
pub enough_on : (slots : Slots) (n : ℕ) (old new : SolverRoom) → IsNoLessRoom old new → IsEnoughToSolve slots n old → IsEnoughToSolve slots n new
enough_on slots n old new less enough = record {
  heights = omega (arith, less.heights, enough.heights);
  states = omega (arith, less.states, enough.states);
  visits = omega (arith, less.visits, enough.visits);
  spot_pairs = omega (arith, less.spot_pairs, enough.spot_pairs);
}

pub longer_than : (m n : ℕ) (pairs : Pairs) → m ≤ n → AreNoLongerThan m pairs → AreNoLongerThan n pairs
longer_than m n pairs less within = all_weaker (λ pair. length pair.1.now ≤ m) (λ pair. length pair.1.now ≤ n) pairs (λ pair h. omega (arith, h, less)) within
