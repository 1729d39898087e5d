-- An insertion underway: the path comes to a node, and bindings of what is open there give the
-- term.
use Rattle.std.specs.Prelude.{◌≡◌, ℕ, List, Some}
use Rattle.si_flat.specs.declared.Cell.{Cell}
use Rattle.si_flat.specs.Cells.{Term}
use Rattle.si_legal.specs.Bindings.{Binding, BindsExactly, applied, StandForBindings}
use Rattle.si_legal.specs.Trees.{Tree, Path, IsPath, path_term, opened}
use Rattle.si_legal.specs.Legal.{IsOpenBelow}
use Rattle.si_insert.specs.declared.open.Opened.{Opened}
use Rattle.si_insert.specs.Opened.{numbers, AreWithin, open_pairs}

pub record IsInsertUnderway (tree : Tree Term) (key : ℕ) (t : Term) (path : Path)
    (there : List Binding) : Type 0 where
  pub reached : IsPath tree (Some key) path
  pub binds : BindsExactly (IsOpenBelow path) there
  pub gives : applied there (path_term path) ≡ t

-- what was opened on the path, with what isn't bound
pub record HoldsOpened (cells : List Cell) (all : List Opened) (path : Path) (there : List Binding)
    : Type 0 where
  pub stand : StandForBindings (open_pairs cells all) there
  pub within : AreWithin cells all
  pub numbers_are : numbers all ≡ opened path
