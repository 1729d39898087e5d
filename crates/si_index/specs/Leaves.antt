-- The leaves of the tree that was asked, as they were found, each with the canonical list of its
-- entries once that is made.
use Rattle.std.specs.Prelude.{◌≡◌, ℕ, List, None, Some, slice_get}
use Rattle.si_form.specs.declared.solution.Binding.{Binding}
use Rattle.si_index.specs.declared.wanted.Leaf.{Leaf}

-- the leaf with this number is this node
abbrev pub HasLeafAt : List Leaf → ℕ → ℕ → Type 0
HasLeafAt leaves n node = (leaf : Leaf) × (slice_get leaves n ≡ Some leaf) × (leaf.node ≡ node)

-- the list of the leaf with this number is made, and is this
abbrev pub HasMade : List Leaf → ℕ → List Binding → Type 0
HasMade leaves n list = (leaf : Leaf) × (slice_get leaves n ≡ Some leaf) × (leaf.list ≡ Some list)

-- it isn't made
abbrev pub IsUnmade : List Leaf → ℕ → Type 0
IsUnmade leaves n = (leaf : Leaf) → slice_get leaves n ≡ Some leaf → leaf.list ≡ None

-- no list is
abbrev pub AreUnmade : List Leaf → Type 0
AreUnmade leaves = (n : ℕ) → IsUnmade leaves n

-- what is known of leaves and of lists that are made stays
pub record StayMade (old new : List Leaf) : Type 0 where
  pub nodes : (n node : ℕ) → HasLeafAt old n node → HasLeafAt new n node
  pub lists : (n : ℕ) (list : List Binding) → HasMade old n list → HasMade new n list
