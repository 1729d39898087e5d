-- The two trees of a pair, and how one posting comes into one of them, and goes.
use Rattle.std.specs.Prelude.{◌≡◌, ◌≢◌, ◌↔◌, ℕ, zero, suc, Bool, not}
use Rattle.si_flat.specs.Cells.{Term}
use Rattle.si_legal.specs.declared.Posting.{Posting}
use Rattle.si_legal.specs.Trees.{StandsIn}
use Rattle.si_legal.specs.StoredSets.{IsUnder}
use Rattle.si_held.specs.TwoTrees.{TwoTrees, tree_for, AreLegal}
use Rattle.si_tree.specs.NewTrees.{IsRootAlone}
use Rattle.si_forest.specs.declared.pair.Pair.{Pair}
use Rattle.si_forest.specs.Locations.{posting_of}
use Rattle.si_forest.specs.OnePosting.{GainsOne, KeepsTree, LosesOne}

abbrev pub two_of : Pair → TwoTrees
two_of pair = record { literals = pair.literals; subterms = pair.subterms }

-- each is a root alone
abbrev pub AreAlone : TwoTrees → Type 0
AreAlone trees = IsRootAlone trees.literals × IsRootAlone trees.subterms

-- ---- one posting
-- the same is stored, in the same leaves
abbrev pub StayStored : TwoTrees → TwoTrees → Type 0
StayStored old new = (literal : Bool) → KeepsTree (tree_for literal old) (tree_for literal new)

-- the tree of this kind gains the posting under this term, at this leaf, and the other stays
pub record GainOne (old new : TwoTrees) (literal : Bool) (t : Term) (p : Posting) (leaf : ℕ)
    : Type 0 where
  pub here : GainsOne (tree_for literal old) (tree_for literal new) t p leaf
  pub other : tree_for (not literal) new ≡ tree_for (not literal) old

-- the tree of this kind loses the posting from this leaf, and the other stays
pub record LoseOne (old new : TwoTrees) (literal : Bool) (p : Posting) (leaf : ℕ) : Type 0 where
  pub here : LosesOne (tree_for literal old) (tree_for literal new) p leaf
  pub other : tree_for (not literal) new ≡ tree_for (not literal) old

-- ---- those of one key
-- the postings of its first entries, so many, go one after the other
abbrev pub LoseFirst : ℕ → ℕ → TwoTrees → TwoTrees → Type 0
LoseFirst key zero old new = new ≡ old
LoseFirst key (suc n) old new =
    (between : TwoTrees) × (literal : Bool) × (leaf : ℕ) × LoseFirst key n old between
    × LoseOne between new literal (posting_of key n) leaf

-- its postings go one after the other, each as one that goes alone
abbrev pub LoseEach : ℕ → TwoTrees → TwoTrees → Type 0
LoseEach key old new = (count : ℕ) × LoseFirst key count old new

-- Postings of this key come or go. All others stay, each in its leaf.
pub record ChangeOnly (key : ℕ) (old new : TwoTrees) : Type 0 where
  pub legal : AreLegal new
  pub stored : (literal : Bool) (t : Term) (p : Posting) → p.clause ≢ key
      → IsUnder (tree_for literal new) t p ↔ IsUnder (tree_for literal old) t p
  pub keep : (literal : Bool) (leaf : ℕ) (t : Term) (p : Posting) → p.clause ≢ key
      → StandsIn (tree_for literal old) leaf t p → StandsIn (tree_for literal new) leaf t p
