-- Heights of slots, by which one of two variables is bound to the other.
use Rattle.std.specs.Prelude.{◌≡◌, ℕ, ◌+◌, ◌<◌, min, nat_lt, Bool, false, List, slice_index_or as get_or, Option, Some}

-- the heights of slots, and for how many slots there is room
pub record SlotHeights : Type 0 where
  pub items : List ℕ
  pub room : ℕ

-- past the end of the list they are 0
abbrev pub height : List ℕ → ℕ → ℕ
height heights slot = get_or heights slot 0

abbrev pub is_lower : List ℕ → ℕ → ℕ → Bool
is_lower heights slot other = nat_lt (height heights slot) (height heights other)

-- both variables have a slot, and that of the right one is the lower one
abbrev pub is_right_lower : List ℕ → Option ℕ → Option ℕ → Bool
is_right_lower heights (Some left) (Some right) = is_lower heights right left
is_right_lower heights _ _ = false

-- a slot, of so many, has become higher by one, up to 255
pub record IsRaised (count slot : ℕ) (old new : List ℕ) : Type 0 where
  pub raised : slot < count → height new slot ≡ min (height old slot + 1) 255
  pub others : (other : ℕ) → (other ≡ slot → ⊥) → height new other ≡ height old other

-- of two slots of the same height the right one has become higher, and else none has
pub record HaveMet (count left right : ℕ) (old new : List ℕ) : Type 0 where
  pub same : height old left ≡ height old right → IsRaised count right old new
  pub apart : (height old left ≡ height old right → ⊥) → new ≡ old
