-- Which nodes of a tree change, and which stay (this project's profile).
use Rattle.std.specs.Prelude.{◌≡◌, ◌⊎◌, ◌≤◌, ℕ, List, [], ◌∷◌, ◌++◌, None, Some, length, slice_index_or, IsPermutation}
use Rattle.si_defs.specs.Terms as terms
use Rattle.si_defs.specs.Substitutions.{IsAmong}
use Rattle.si_flat.specs.Cells.{Term, same_variable}
use Rattle.si_legal.specs.declared.Posting.{Posting}
use Rattle.si_legal.specs.Bindings.{Binding}
use Rattle.si_legal.specs.Trees.{Content, inner, leaf, Node, Tree, HasNode}
use Rattle.si_legal.specs.Legal.{IsLeafTerm}
use Rattle.si_legal.specs.StoredSets.{IsUnder}

-- no node has this key
abbrev pub IsVacant : Tree Term → ℕ → Type 0
IsVacant tree key = slice_index_or tree.nodes key None ≡ None

-- the nodes with other keys than these stay, and no others come
abbrev pub OtherNodesStay : Tree Term → Tree Term → List ℕ → Type 0
OtherNodesStay old new keys =
    (key : ℕ) → (IsAmong keys key → ⊥)
    → slice_index_or new.nodes key None ≡ slice_index_or old.nodes key None

abbrev pub with_content : Node Term → Content → Node Term
with_content node content = record {
  parent = node.parent;
  bindings = node.bindings;
  content = content;
}

abbrev pub leaf_below : ℕ → List Binding → List Posting → Node Term
leaf_below parent bindings postings = record {
  parent = Some parent;
  bindings = bindings;
  content = leaf postings;
}

-- the inner node with this key loses some children and gets others, in any order
pub record ChangesChildren (old new : Tree Term) (key : ℕ) (gone come : List ℕ) : Type 0 where
  pub node : Node Term
  pub split : ℕ
  pub stay : List ℕ
  pub before : List ℕ
  pub after : List ℕ
  pub had : HasNode old key node
  pub content : node.content ≡ inner split before
  pub before_are : IsPermutation (gone ++ stay) before
  pub has : HasNode new key (with_content node (inner split after))
  pub after_are : IsPermutation (come ++ stay) after

-- the node with this key is below an inner one
pub record IsBelowInner (tree : Tree Term) (key : ℕ) : Type 0 where
  pub node : Node Term
  pub parent : ℕ
  pub parent_node : Node Term
  pub split : ℕ
  pub children : List ℕ
  pub has : HasNode tree key node
  pub below : node.parent ≡ Some parent
  pub is_parent : HasNode tree parent parent_node
  pub inner_node : parent_node.content ≡ inner split children

-- the leaf with this key gets other postings, and nothing else changes
pub record ChangesPostings (old new : Tree Term) (key : ℕ) (before after : List Posting)
    : Type 0 where
  pub node : Node Term
  pub had : HasNode old key node
  pub content : node.content ≡ leaf before
  pub has : HasNode new key (with_content node (leaf after))
  pub others : OtherNodesStay old new (key ∷ [])
  pub root : new.root ≡ old.root
  pub next : new.next ≡ old.next
  pub vars : new.vars ≡ old.vars

-- a leaf with this term and this posting may be put into the tree
pub record MayComeIn (tree : Tree Term) (t : Term) (p : Posting) : Type 0 where
  pub leaf_term : IsLeafTerm t
  pub not_stored : (u : Term) → IsUnder tree u p → ⊥

-- the greater of the two
abbrev pub IsGreater : ℕ → ℕ → ℕ → Type 0
IsGreater m n greater = (m ≤ greater) × (n ≤ greater) × ((greater ≡ m) ⊎ (greater ≡ n))

-- the bound on variables rises to the number of those of this term
abbrev pub RoomFor : Tree Term → Tree Term → Term → Type 0
RoomFor old new t =
    IsGreater old.vars (length (terms.firsts same_variable (terms.variables t))) new.vars
