-- A node is split: its common part with new bindings becomes an inner node in its place, and below
-- that stand the rest of the node and a new leaf (after Graf 1996; the keys, the numbers and the
-- order are this project's profile).
use Rattle.std.specs.Prelude.{◌≡◌, ◌≢◌, ◌+◌, ℕ, List, [], ◌∷◌, ◌++◌, length, Some, IsPermutation}
use Rattle.si_defs.specs.Substitutions.{IsAmong}
use Rattle.si_flat.specs.Cells.{Term}
use Rattle.si_flat.specs.Rows.{left_sides}
use Rattle.si_legal.specs.declared.Posting.{Posting}
use Rattle.si_legal.specs.Bindings.{Binding, OpensNone, BindsExactly, applied}
use Rattle.si_legal.specs.Generalizations.{fresh_among, MaySplit, Splits}
use Rattle.si_legal.specs.Trees.{inner, Node, Tree, HasNode, Path, IsPath, path_term}
use Rattle.si_legal.specs.Legal.{IsOpenBelow}
use Rattle.si_changes.specs.Nodes.{IsVacant, OtherNodesStay, leaf_below, ChangesChildren, MayComeIn, RoomFor}
use Rattle.si_changes.specs.Leaves.{IsTermAt}

-- what the bindings of a node, and new ones for its left sides, are split into
pub record Parts : Type 0 where
  pub common : List Binding
  pub rest_node : List Binding
  pub rest_new : List Binding

-- The node at the head of this path may be split so. The new leaf binds besides what the node
-- leaves open.
pub record MaySplitNode (tree : Tree Term) (key : ℕ) (parts : Parts) (others : List Binding)
    (p : Posting) : Type 0 where
  pub node : Node Term
  pub parent : ℕ
  pub parent_node : Node Term
  pub above : Path
  pub split : ℕ
  pub children : List ℕ
  pub new : List Binding
  pub reached : IsPath tree (Some key) ((key, node) ∷ (parent, parent_node) ∷ above)
  pub inner_node : parent_node.content ≡ inner split children
  pub may_split : MaySplit tree.next node.bindings new
  pub splits : Splits tree.next node.bindings new parts.common parts.rest_node parts.rest_new
  pub binds_split : IsAmong (left_sides parts.common) split
  pub differs : parts.rest_node ≢ []
  pub binds : BindsExactly (λ n. IsOpenBelow ((parent, parent_node) ∷ above) n
      × (IsAmong (left_sides node.bindings) n → ⊥)) others
  pub opens_none : OpensNone others
  pub may_come : MayComeIn tree (applied (parts.rest_new ++ others)
      (applied parts.common (path_term ((parent, parent_node) ∷ above)))) p

-- the inner node and the new leaf have these keys
pub record SplitsNode (old new : Tree Term) (key : ℕ) (parts : Parts) (others : List Binding)
    (p : Posting) (inner_key leaf_key : ℕ) : Type 0 where
  pub node : Node Term
  pub parent : ℕ
  pub first : ℕ
  pub right : Term
  pub more : List Binding
  pub two : List ℕ
  pub had : HasNode old key node
  pub below : node.parent ≡ Some parent
  pub inner_vacant : IsVacant old inner_key
  pub leaf_vacant : IsVacant old leaf_key
  pub apart : inner_key ≢ leaf_key
  pub linked : ChangesChildren old new parent (key ∷ []) (inner_key ∷ [])
  pub first_left : parts.rest_node ≡ (first, right) ∷ more
  pub two_are : IsPermutation (key ∷ leaf_key ∷ []) two
  pub inner_node : HasNode new inner_key
      (record { parent = Some parent; bindings = parts.common; content = inner first two })
  pub rest : HasNode new key
      (record { parent = Some inner_key; bindings = parts.rest_node; content = node.content })
  pub new_leaf : HasNode new leaf_key (leaf_below inner_key (parts.rest_new ++ others) (p ∷ []))
  pub others_stay : OtherNodesStay old new (key ∷ parent ∷ inner_key ∷ leaf_key ∷ [])
  pub root : new.root ≡ old.root
  pub next : new.next ≡ old.next + length (fresh_among old.next (left_sides parts.rest_node))
  pub room : (t : Term) → IsTermAt new leaf_key t → RoomFor old new t
