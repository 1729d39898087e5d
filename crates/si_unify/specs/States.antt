-- How far the search for a circle has come with each slot.
use Rattle.std.specs.Prelude.{◌≡◌, ℕ, zero, suc, ◌+◌, ◌<◌, ◌≤◌, ◌⊎◌, sum_by, List, [], ◌∷◌, length, slice_get, Some}
use Rattle.std.specs.List.{AllByRecursion}
use Rattle.si_defs.specs.Substitutions.{IsAmong}
use Rattle.si_unify.specs.declared.states.State.{State}
use Rattle.si_unify.specs.declared.states.State.TheVariants.{New, Open, Done}

-- the states of slots, and for how many slots there is room
pub record SlotStates : Type 0 where
  pub items : List State
  pub room : ℕ

-- no slot has been met
abbrev pub AreNew : List State → Type 0
AreNew = AllByRecursion (λ s. s ≡ New)

-- how often a state is that of a new slot
abbrev pub state_weight : State → ℕ
state_weight New = 1
state_weight Open = 0
state_weight Done = 0

-- how many of the first so many slots are new
abbrev pub new_slots : ℕ → List State → ℕ
new_slots zero states = 0
new_slots (suc n) [] = 0
new_slots (suc n) (s ∷ states) = state_weight s + new_slots n states

-- each new slot still finds room among those that were met
pub record HasRoomForSlots (states : List State) (met : List ℕ) (capacity : ℕ) : Type 0 where
  pub few : length met + sum_by state_weight states ≤ length states
  pub fits : length states ≤ capacity

-- each slot that isn't new is one of these, which are slots
pub record AreMet (states : List State) (met : List ℕ) : Type 0 where
  pub inside : AllByRecursion (λ slot. slot < length states) met
  pub others : (slot : ℕ) → slot < length states → (slice_get states slot ≡ Some New)
      ⊎ IsAmong met slot
