-- How much fits in the memory that is lent to the solver, and how much a question may need.
use Rattle.std.specs.Prelude.{ℕ, ◌+◌, ◌*◌, ◌≤◌, length}
use Rattle.std.specs.List.{AllByRecursion}
use Rattle.indexmap.specs.IndexSet.{IndexSet, index_set_len, spare}
use Rattle.si_unify.specs.declared.slots.Slots.{Slots}
use Rattle.si_unify.specs.declared.spots.SpotPair.{SpotPair}
use Rattle.si_unify.specs.Solving.{Pairs, slot_count}

-- for how many slots there are heights and states, and how many visits and pairs of spots fit
pub record SolverRoom : Type 0 where
  pub heights : ℕ
  pub states : ℕ
  pub visits : ℕ
  pub spot_pairs : ℕ

-- as much fits as before
pub record IsNoLessRoom (old new : SolverRoom) : Type 0 where
  pub heights : old.heights ≤ new.heights
  pub states : old.states ≤ new.states
  pub visits : old.visits ≤ new.visits
  pub spot_pairs : old.spot_pairs ≤ new.spot_pairs

-- how many pairs of spots fit in all
abbrev pub spot_pairs_room : {S : Type 0} → IndexSet SpotPair S → ℕ
spot_pairs_room s = index_set_len s + spare s

-- no value has more than n cells
abbrev pub AreNoLongerThan : ℕ → Pairs → Type 0
AreNoLongerThan n = AllByRecursion (λ pair. length pair.1.now ≤ n)

-- the cells of two terms and of a value for each of so many slots, where none has more than n
abbrev pub most_spots : ℕ → ℕ → ℕ
most_spots count n = (count + 2) * n

-- The room is enough to solve over these slots, where neither term and no value has more than n
-- cells. A slot has a height and a state. It brings two visits, and one for each cell of its value.
-- Two spots make a pair.
pub record IsEnoughToSolve (slots : Slots) (n : ℕ) (room : SolverRoom) : Type 0 where
  pub heights : slot_count slots ≤ room.heights
  pub states : slot_count slots ≤ room.states
  pub visits : slot_count slots * (n + 2) ≤ room.visits
  pub spot_pairs :
      most_spots (slot_count slots) n * most_spots (slot_count slots) n ≤ room.spot_pairs
