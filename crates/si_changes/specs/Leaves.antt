-- A leaf comes below an inner node, or goes (this project's profile).
use Rattle.std.specs.Prelude.{◌≡◌, ◌⊎◌, ◌≤◌, ℕ, false, List, [], ◌∷◌, length, Some}
use Rattle.si_defs.specs.Substitutions.{IsAmong}
use Rattle.si_flat.specs.Cells.{Term}
use Rattle.si_legal.specs.declared.Posting.{Posting}
use Rattle.si_legal.specs.Bindings.{Binding, OpensNone, BindsExactly, applied}
use Rattle.si_legal.specs.Generalizations.{same_head}
use Rattle.si_legal.specs.Trees.{inner, leaf, Node, Tree, HasNode, Path, IsPath, path_term}
use Rattle.si_legal.specs.Legal.{IsOpenBelow, ChildBinds}
use Rattle.si_changes.specs.Nodes.{IsVacant, OtherNodesStay, leaf_below, ChangesChildren, IsBelowInner, MayComeIn, RoomFor}

-- the path that leads to this key has this term
abbrev pub IsTermAt : Tree Term → ℕ → Term → Type 0
IsTermAt tree key t = (path : Path) × IsPath tree (Some key) path × (t ≡ path_term path)

-- The node with this key is an inner one at the head of this path, and it has no child with the
-- head that these bindings give its split.
pub record MayAddLeaf (tree : Tree Term) (parent : ℕ) (bindings : List Binding) (p : Posting)
    : Type 0 where
  pub node : Node Term
  pub above : Path
  pub split : ℕ
  pub children : List ℕ
  pub reached : IsPath tree (Some parent) ((parent, node) ∷ above)
  pub inner_node : node.content ≡ inner split children
  pub binds : BindsExactly (IsOpenBelow ((parent, node) ∷ above)) bindings
  pub opens_none : OpensNone bindings
  pub new_head : (t u : Term) (child : ℕ) → IsAmong bindings (split, t) → IsAmong children child
      → ChildBinds tree child split u → same_head t u ≡ false
  pub may_come : MayComeIn tree (applied bindings (path_term ((parent, node) ∷ above))) p

-- the new leaf has this key
pub record AddsLeaf (old new : Tree Term) (parent : ℕ) (bindings : List Binding) (p : Posting)
    (key : ℕ) : Type 0 where
  pub vacant : IsVacant old key
  pub new_leaf : HasNode new key (leaf_below parent bindings (p ∷ []))
  pub linked : ChangesChildren old new parent [] (key ∷ [])
  pub others : OtherNodesStay old new (key ∷ parent ∷ [])
  pub root : new.root ≡ old.root
  pub next : new.next ≡ old.next
  pub room : (t : Term) → IsTermAt new key t → RoomFor old new t

-- ---- a leaf goes
-- it has no posting, and its parent is the root or keeps two children
pub record MayDropLeaf (tree : Tree Term) (key : ℕ) : Type 0 where
  pub stands : IsBelowInner tree key
  pub empty : stands.node.content ≡ leaf []
  pub enough : (stands.parent ≡ tree.root) ⊎ (3 ≤ length stands.children)

pub record DropsLeaf (old new : Tree Term) (key : ℕ) : Type 0 where
  pub node : Node Term
  pub parent : ℕ
  pub had : HasNode old key node
  pub below : node.parent ≡ Some parent
  pub gone : IsVacant new key
  pub linked : ChangesChildren old new parent (key ∷ []) []
  pub others : OtherNodesStay old new (key ∷ parent ∷ [])
  pub root : new.root ≡ old.root
  pub next : new.next ≡ old.next
  pub vars : new.vars ≡ old.vars
