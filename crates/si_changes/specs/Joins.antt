-- A leaf goes, and its parent is joined with the one child that is left (this project's profile).
use Rattle.std.specs.Prelude.{◌≡◌, ◌≢◌, ℕ, [], ◌∷◌, Some, IsPermutation}
use Rattle.si_flat.specs.Cells.{Term}
use Rattle.si_legal.specs.Bindings.{composed}
use Rattle.si_legal.specs.Trees.{leaf, Node, Tree, HasNode}
use Rattle.si_changes.specs.Nodes.{IsVacant, OtherNodesStay, ChangesChildren, IsBelowInner}

-- The leaf with this key has no posting, and this is the one other child of its parent, which isn't
-- the root.
pub record MayJoin (tree : Tree Term) (key other : ℕ) : Type 0 where
  pub stands : IsBelowInner tree key
  pub empty : stands.node.content ≡ leaf []
  pub no_root : stands.parent ≢ tree.root
  pub two : IsPermutation (key ∷ other ∷ []) stands.children

pub record Joins (old new : Tree Term) (key other : ℕ) : Type 0 where
  pub parent : ℕ
  pub parent_node : Node Term
  pub other_node : Node Term
  pub above : ℕ
  pub was_parent : HasNode old parent parent_node
  pub below_parent : parent_node.parent ≡ Some above
  pub was_below : HasNode old other other_node
  pub child_of : other_node.parent ≡ Some parent
  pub gone : IsVacant new key
  pub parent_gone : IsVacant new parent
  pub joined : HasNode new other (record {
    parent = Some above;
    bindings = composed parent_node.bindings other_node.bindings;
    content = other_node.content;
  })
  pub linked : ChangesChildren old new above (parent ∷ []) (other ∷ [])
  pub others : OtherNodesStay old new (key ∷ parent ∷ other ∷ above ∷ [])
  pub root : new.root ≡ old.root
  pub next : new.next ≡ old.next
  pub vars : new.vars ≡ old.vars
