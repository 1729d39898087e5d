-- What a split of a node wants, and what is read for it.
use Rattle.std.specs.Prelude.{◌≡◌, ℕ, ◌+◌, List, [], ◌∷◌, length}
use Rattle.si_defs.specs.Substitutions.{IsAmong}
use Rattle.si_flat.specs.declared.Cell.{Cell}
use Rattle.si_flat.specs.Cells.{Term, IsWhole, StandsFor}
use Rattle.si_flat.specs.Rows.{CellPair, left_sides}
use Rattle.si_legal.specs.declared.Posting.{Posting}
use Rattle.si_legal.specs.Bindings.{Binding, StandForBindings}
use Rattle.si_legal.specs.Trees.{Node, Tree, HasNode, Path}
use Rattle.si_legal.specs.Legal.{IsLegal}
use Rattle.si_changes.specs.Nodes.{MayComeIn}
use Rattle.si_tree.specs.declared.node.Head.{Head}
use Rattle.si_tree.specs.Heads.{HasHead, IsChildBy}
use Rattle.si_insert.specs.declared.open.Opened.{Opened}
use Rattle.si_insert.specs.Passing.{MakesAll, MayPass}
use Rattle.si_insert.specs.Underway.{IsInsertUnderway, HoldsOpened}

-- the number of cells on the right sides
abbrev pub right_lengths : List CellPair → ℕ
right_lengths [] = 0
right_lengths (b ∷ bs) = length b.1 + right_lengths bs

-- what is open at these left sides, in their order
pub record AreOpenAt (there : List Binding) (lefts : List ℕ) (new : List Binding) : Type 0 where
  pub lefts_are : lefts ≡ left_sides new
  pub among : (b : Binding) → IsAmong new b → IsAmong there b

abbrev pub GivesParts : List Cell → List Opened → List CellPair → List CellPair → Type 0
GivesParts cells all node parts =
    (there bs : List Binding) → MayPass cells all node there bs
    → (new : List Binding) × StandForBindings parts new × AreOpenAt there (left_sides bs) new

-- The child has the head of what is open at the split, and its bindings don't fit.
pub record MayPart (tree : Tree Term) (cells : List Cell) (all : List Opened) (child : ℕ)
    (p : Posting) : Type 0 where
  pub legal : IsLegal tree
  pub whole : IsWhole cells
  pub term : Term
  pub stands : StandsFor cells term
  pub may : MayComeIn tree term p
  pub key : ℕ
  pub path : Path
  pub there : List Binding
  pub underway : IsInsertUnderway tree key term path there
  pub holds : HoldsOpened cells all path there
  pub head : Head
  pub by : IsChildBy tree key head child
  pub part : Term
  pub among : IsAmong there (by.split, part)
  pub has_head : HasHead part head
  pub never : (node : Node Term) (fs : List Binding) → HasNode tree child node
      → MakesAll fs there node.bindings → ⊥
