-- What is read of an insertion that is underway.
use Rattle.std.specs.Prelude.{ℕ, List}
use Rattle.si_defs.specs.Substitutions.{IsAmong, AreDistinct}
use Rattle.si_flat.specs.declared.Cell.{Cell}
use Rattle.si_flat.specs.Cells.{Term, IsWhole}
use Rattle.si_legal.specs.Bindings.{Binding, StandForBindings}
use Rattle.si_tree.specs.declared.node.Head.{Head}
use Rattle.si_tree.specs.Heads.{HasHead}
use Rattle.si_insert.specs.declared.open.Opened.{Opened}
use Rattle.si_insert.specs.Opened.{numbers, AreWithin, open_pairs}

-- a term without indicators and without variables of a query
abbrev pub HasSomeHead : Term → Type 0
HasSomeHead t = (head : Head) × HasHead t head

-- the split is open, for a term with this head
pub record IsAtInner (cells : List Cell) (all : List Opened) (split : ℕ) : Type 0 where
  pub whole : IsWhole cells
  pub there : List Binding
  pub stand : StandForBindings (open_pairs cells all) there
  pub within : AreWithin cells all
  pub distinct : AreDistinct (numbers all)
  pub part : Term
  pub among : IsAmong there (split, part)
  pub has_head : HasSomeHead part

abbrev pub GivesHead : List Cell → List Opened → ℕ → Head → Type 0
GivesHead cells all split head =
    (there : List Binding) (t : Term) → StandForBindings (open_pairs cells all) there
    → IsAmong there (split, t) → HasHead t head
