-- What a descent is lent, and when it is enough.
use Rattle.std.specs.Prelude.{◌≡◌, ℕ, ◌+◌, ◌≤◌, max, List, [], ◌∷◌, length, Vec, vec_capacity}
use Rattle.std.specs.List.{AllByRecursion}
use Rattle.si_defs.specs.Substitutions.{IsAmong, AreDistinct}
use Rattle.si_defs.specs.declared.Relation.{Relation}
use Rattle.si_defs.specs.declared.Relation.TheVariants.{Variants}
use Rattle.si_trail.specs.Trails.{Trail}
use Rattle.si_flat.specs.declared.Cell.{Cell}
use Rattle.si_flat.specs.Cells.{Term, StandsFor, cells_of}
use Rattle.si_flat.specs.Rows.{CellPair}
use Rattle.si_unify.specs.declared.slots.Slots.{Slots}
use Rattle.si_unify.specs.Rooms.{SolverRoom, AreNoLongerThan, IsEnoughToSolve}
use Rattle.si_unify.specs.Solving.{Pairs}
use Rattle.si_legal.specs.declared.Posting.{Posting}
use Rattle.si_legal.specs.Bindings.{Binding}
use Rattle.si_legal.specs.Trees.{Node, Tree, HasNode}
use Rattle.si_legal.specs.Descents.{IsAnswerBelow}

-- ---- right sides
-- none of these has more than n cells
abbrev pub AreNoLongerBindings : ℕ → List Binding → Type 0
AreNoLongerBindings n = AllByRecursion (λ b. length (cells_of b.1) ≤ n)

-- no right side in the tree has more
abbrev pub AreRightsNoLongerThan : ℕ → Tree Term → Type 0
AreRightsNoLongerThan n tree =
    (key : ℕ) (node : Node Term) → HasNode tree key node → AreNoLongerBindings n node.bindings

-- the cells of the longest of these
abbrev pub most_cells : List CellPair → ℕ
most_cells [] = 0
most_cells (b ∷ bs) = max (length b.1) (most_cells bs)

-- ---- memory

-- The scratch has room enough to solve the bindings of the tree over those of the trail. None of
-- them has more than n cells.
pub record IsEnoughForTree (n : ℕ) (tree : Tree Term) (slots : Slots) (pairs : Pairs)
    (room : SolverRoom) : Type 0 where
  pub rights : AreRightsNoLongerThan n tree
  pub values : AreNoLongerThan n pairs
  pub solver : IsEnoughToSolve slots n room

-- No variable is taken in the table. It has room for those of the query where variants are sought.
pub record IsTableFor {T : Type 0} (relation : Relation) (slots : Slots) (taken : Trail T)
    : Type 0 where
  pub none : taken.pairs ≡ []
  pub room : relation ≡ Variants → slots.query ≤ taken.slots

-- after what the list has there is room for all of these, each once
abbrev pub HasRoomForAll : {A : Type 0} → (Posting → Type 0) → Vec Posting A → Type 0
HasRoomForAll these out =
    (found : List Posting) → AreDistinct found → ((p : Posting) → IsAmong found p → these p)
    → length out.items + length found ≤ vec_capacity out

-- for all answers below this node
abbrev pub HasRoomForAnswers : {A : Type 0} → Tree Term → ℕ → Relation → List Cell
    → Vec Posting A → Type 0
HasRoomForAnswers tree top relation query out =
    (q : Term) → StandsFor query q → HasRoomForAll (IsAnswerBelow tree top relation q) out
