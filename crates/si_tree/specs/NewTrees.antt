-- The tree of the root alone.
use Rattle.std.specs.Prelude.{◌≡◌, ◌≢◌, ℕ, [], None}
use Rattle.si_flat.specs.Cells.{Term}
use Rattle.si_legal.specs.Trees.{inner, Node, Tree, HasNode}
use Rattle.si_changes.specs.Nodes.{IsVacant}

-- an inner node that binds nothing, and has no child
abbrev pub bare_root : Node Term
bare_root = record { parent = None; bindings = []; content = inner 0 [] }

pub record IsRootAlone (tree : Tree Term) : Type 0 where
  pub root : HasNode tree tree.root bare_root
  pub others : (key : ℕ) → key ≢ tree.root → IsVacant tree key
  pub next : tree.next ≡ 1
  pub vars : tree.vars ≡ 0
