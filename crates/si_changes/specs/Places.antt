-- Indicators numbered by their places among those that a path opens.
use Rattle.std.specs.Prelude.{◌≡◌, ℕ, ◌≤◌, ◌==◌, List, ◌++◌, length, Some}
use Rattle.si_flat.specs.Cells.{Term}
use Rattle.si_flat.specs.Numbered.{place_in}
use Rattle.si_legal.specs.Bindings.{right_indicators}
use Rattle.si_legal.specs.Trees.{Node, Tree, HasNode, Path, IsPath, opened}
use Rattle.si_legal.specs.Renumbering.{renamed_bindings, renamed_content}

-- how many of these come before it
abbrev pub number_among : List ℕ → ℕ → ℕ
number_among ns n = place_in (λ j k. j == k) ns n

-- the node below this path, with those numbers
abbrev pub renumbered_node : Path → Node Term → Node Term
renumbered_node above node =
    let to = number_among (opened above ++ right_indicators node.bindings) in
    record {
      parent = node.parent;
      bindings = renamed_bindings to node.bindings;
      content = renamed_content to node.content;
    }

-- each node is numbered so, and `next` is the greatest number of indicators that a path opens
pub record IsPlaced (old new : Tree Term) : Type 0 where
  pub root : new.root ≡ old.root
  pub vars : new.vars ≡ old.vars
  pub nodes : (key : ℕ) (node : Node Term) (above : Path) → HasNode old key node
      → IsPath old node.parent above → HasNode new key (renumbered_node above node)
  pub no_others : (key : ℕ) (other : Node Term) → HasNode new key other
      → (node : Node Term) × HasNode old key node
  pub enough : (key : ℕ) (path : Path) → IsPath old (Some key) path
      → length (opened path) ≤ new.next
  pub least : (key : ℕ) × (path : Path) × IsPath old (Some key) path
      × (new.next ≡ length (opened path))
