-- What ties the places by slot to the bindings.
use Rattle.std.specs.Prelude.{◌≡◌, ℕ, ◌^◌, ◌<◌, ◌≤◌, List, length, Some, slice_get}
use Rattle.si_trail.specs.Trails.{HasDistinctSlots, HasSlotsBelow}

-- the slot has this place
abbrev pub IsSet : List ℕ → ℕ → ℕ → Type 0
IsSet places slot place = slice_get places slot ≡ Some place

module _ {T : Type 0} where
  -- each slot that is bound has the place of its binding
  pub record IsTableOf (places : List ℕ) (slots capacity : ℕ) (bound : List (ℕ × T)) : Type 0 where
    pub reach : slots ≤ length places
    pub at : (place slot : ℕ) (value : T) → slice_get bound place ≡ Some (slot, value)
        → IsSet places slot place
    pub distinct : HasDistinctSlots bound
    pub below : HasSlotsBelow slots bound
    pub room : slots ≤ capacity
    pub small : slots < 2 ^ 32
