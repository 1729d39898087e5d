-- What a change of a tree wants, and what it does, as its contract says it.
use Rattle.std.specs.Prelude.{◌≡◌, ℕ, List, [], ◌∷◌, ◌++◌}
use Rattle.si_defs.specs.Substitutions.{IsAmong}
use Rattle.si_flat.specs.Cells.{Term}
use Rattle.si_flat.specs.Rows.{CellPair, AreWhole}
use Rattle.si_flat.specs.declared.bindings.Split.{Split}
use Rattle.si_legal.specs.declared.Posting.{Posting}
use Rattle.si_legal.specs.Bindings.{Binding}
use Rattle.si_legal.specs.Trees.{leaf, Node, Tree, HasNode, IsLeaf}
use Rattle.si_legal.specs.StoredSets.{IsUnder, Gains, Loses, KeepsLeaves}
use Rattle.si_changes.specs.Nodes.{ChangesPostings}
use Rattle.si_changes.specs.Leaves.{AddsLeaf, IsTermAt}
use Rattle.si_changes.specs.Splits.{Parts, SplitsNode}
use Rattle.si_tree.specs.Decoding.{bindings_of}

-- ---- postings
abbrev pub IsNotStored : Tree Term → Posting → Type 0
IsNotStored tree p = (t : Term) → IsUnder tree t p → ⊥

pub record MayAddPosting (tree : Tree Term) (key : ℕ) (p : Posting) : Type 0 where
  pub node : Node Term
  pub postings : List Posting
  pub has : HasNode tree key node
  pub content : node.content ≡ leaf postings
  pub not_stored : IsNotStored tree p

pub record AddsPosting (old new : Tree Term) (key : ℕ) (p : Posting) : Type 0 where
  pub postings : List Posting
  pub changes : ChangesPostings old new key postings (postings ++ p ∷ [])
  pub gains : (t : Term) → IsLeaf old key t postings → Gains old new t p
  pub keeps : KeepsLeaves old new

pub record HasPosting (tree : Tree Term) (key : ℕ) (p : Posting) : Type 0 where
  pub node : Node Term
  pub postings : List Posting
  pub has : HasNode tree key node
  pub content : node.content ≡ leaf postings
  pub among : IsAmong postings p

pub record DropsPosting (old new : Tree Term) (key : ℕ) (p : Posting) : Type 0 where
  pub before : List Posting
  pub after : List Posting
  pub changes : ChangesPostings old new key (before ++ p ∷ after) (before ++ after)
  pub loses : (t : Term) → IsLeaf old key t (before ++ p ∷ after) → Loses old new t p
  pub keeps : KeepsLeaves old new

-- ---- a leaf
-- the new leaf has this key
pub record HasNewLeaf (old new : Tree Term) (parent : ℕ) (bindings : List Binding) (p : Posting)
    (key : ℕ) : Type 0 where
  pub adds : AddsLeaf old new parent bindings p key
  pub gains : (t : Term) → IsTermAt new key t → Gains old new t p
  pub keeps : KeepsLeaves old new

-- ---- a split
abbrev pub parts_of : Split → Parts
parts_of split = record {
  common = bindings_of split.common;
  rest_node = bindings_of split.rest_node;
  rest_new = bindings_of split.rest_new;
}

-- each right side is one term
pub record AreWholeParts (split : Split) (more : List CellPair) : Type 0 where
  pub common : AreWhole split.common
  pub rest_node : AreWhole split.rest_node
  pub rest_new : AreWhole split.rest_new
  pub others : AreWhole more

-- the new leaf has this key
pub record HasSplitLeaf (old new : Tree Term) (key : ℕ) (parts : Parts) (others : List Binding)
    (p : Posting) (leaf_key : ℕ) : Type 0 where
  pub inner_key : ℕ
  pub splits : SplitsNode old new key parts others p inner_key leaf_key
  pub gains : (t : Term) → IsTermAt new leaf_key t → Gains old new t p
  pub keeps : KeepsLeaves old new

-- the item was taken out, and the others stay in order
pub record IsWithout {X : Type 0} (old : List X) (x : X) (new : List X) : Type 0 where
  pub before : List X
  pub after : List X
  pub old_is : old ≡ before ++ x ∷ after
  pub new_is : new ≡ before ++ after
