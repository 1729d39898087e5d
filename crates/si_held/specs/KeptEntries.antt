-- The postings of kept entries: which stand under a term, and where each (this project's profile).
use Rattle.std.specs.Prelude.{◌≡◌, ℕ, Bool, List}
use Rattle.si_defs.specs.Symbols.{Numbering}
use Rattle.si_defs.specs.Substitutions.{IsAmong, AreDistinct}
use Rattle.si_defs.specs.Clauses.{Clause}
use Rattle.si_defs.specs.Entries.{Entry}
use Rattle.si_flat.specs.Cells.{entry, Term}
use Rattle.si_flat.specs.Flattened.{numbered_entry}
use Rattle.si_legal.specs.declared.Posting.{Posting}
use Rattle.si_legal.specs.Trees.{IsLeaf, StandsIn}
use Rattle.si_legal.specs.KeptTrees.{is_literal, IsPostingOf}
use Rattle.si_held.specs.TwoTrees.{TwoTrees, tree_for}

-- it is the posting of a kept entry of this kind, which is this term by these numbers
abbrev pub IsKeptEntry : Numbering → List (ℕ × Clause) → Bool → Term → Posting → Type 0
IsKeptEntry numbers kept literals t p =
    (e : Entry) × IsPostingOf kept p e × (is_literal e ≡ literals)
    × (t ≡ numbered_entry numbers entry e)

-- The posting stands once in the leaf of this term in the tree of this kind, and nowhere else in
-- the two trees.
pub record IsPostedOnce (trees : TwoTrees) (literals : Bool) (t : Term) (p : Posting) : Type 0 where
  pub key : ℕ
  pub postings : List Posting
  pub leaf : IsLeaf (tree_for literals trees) key t postings
  pub among : IsAmong postings p
  pub distinct : AreDistinct postings
  pub only : (other : Bool) (k : ℕ) (u : Term) → StandsIn (tree_for other trees) k u p
      → (other ≡ literals) × (k ≡ key) × (u ≡ t)
