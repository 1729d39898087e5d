-- A tree of literal entries and one of subterm entries, and what they gain and lose with a clause
-- (this project's profile).
use Rattle.std.specs.Prelude.{◌≡◌, ◌≢◌, ℕ, ◌⊎◌, ◌↔◌, Bool, true, false, List, [], Some, slice_get}
use Rattle.si_defs.specs.Symbols.{Numbering}
use Rattle.si_defs.specs.Clauses.{Clause, IsSoundClause}
use Rattle.si_defs.specs.Entries.{Placed, entries, clause_symbols}
use Rattle.si_flat.specs.Cells.{entry, Term}
use Rattle.si_flat.specs.Flattened.{numbered_entry, unnumbered}
use Rattle.si_legal.specs.declared.Posting.{Posting}
use Rattle.si_legal.specs.Trees.{Tree}
use Rattle.si_legal.specs.Legal.{IsLegal}
use Rattle.si_legal.specs.StoredSets.{IsUnder}
use Rattle.si_legal.specs.KeptTrees.{is_literal, HoldKept}

pub record TwoTrees : Type 0 where
  pub literals : Tree Term
  pub subterms : Tree Term

-- the one of this kind of entries
abbrev pub tree_for : Bool → TwoTrees → Tree Term
tree_for true trees = trees.literals
tree_for false trees = trees.subterms

abbrev pub AreLegal : TwoTrees → Type 0
AreLegal trees = IsLegal trees.literals × IsLegal trees.subterms

abbrev pub Hold : Numbering → List (ℕ × Clause) → TwoTrees → Type 0
Hold numbers kept trees = HoldKept numbers kept trees.literals trees.subterms

-- ---- the postings of one clause
-- With these numbers for its symbols, the term and the posting are those of an entry of the clause
-- with this key, and the entry is of this kind.
pub record IsPostingIn (numbers : Numbering) (key : ℕ) (clause : Clause) (literals : Bool)
    (t : Term) (p : Posting) : Type 0 where
  pub key_is : p.clause ≡ key
  pub placed : Placed
  pub numbered : slice_get (entries clause) p.entry ≡ Some placed
  pub kind : is_literal placed.entry ≡ literals
  pub term_is : t ≡ numbered_entry numbers entry placed.entry

-- no posting of this key is stored
abbrev pub IsNewKey : ℕ → TwoTrees → Type 0
IsNewKey key trees =
    (literals : Bool) (t : Term) (p : Posting) → IsUnder (tree_for literals trees) t p
    → p.clause ≢ key

-- The postings of the clause may be put into the trees: each of its symbols has a number, and none
-- of its key is stored.
pub record MayAddClause (numbers : Numbering) (key : ℕ) (clause : Clause) (trees : TwoTrees)
    : Type 0 where
  pub sound : IsSoundClause clause
  pub numbered : unnumbered numbers (clause_symbols clause) ≡ []
  pub new_key : IsNewKey key trees

-- the trees gain the clause's postings, each in the tree of its kind, and no others
abbrev pub AddsClause : Numbering → ℕ → Clause → TwoTrees → TwoTrees → Type 0
AddsClause numbers key clause old new =
    (literals : Bool) (t : Term) (p : Posting)
    → IsUnder (tree_for literals new) t p
    ↔ (IsUnder (tree_for literals old) t p ⊎ IsPostingIn numbers key clause literals t p)

-- of this key exactly the clause's postings are stored
abbrev pub HoldsClause : Numbering → ℕ → Clause → TwoTrees → Type 0
HoldsClause numbers key clause trees =
    (literals : Bool) (t : Term) (p : Posting)
    → (IsUnder (tree_for literals trees) t p × (p.clause ≡ key))
    ↔ IsPostingIn numbers key clause literals t p

-- the trees lose the postings of this key, and no others
abbrev pub RemovesClause : ℕ → TwoTrees → TwoTrees → Type 0
RemovesClause key old new =
    (literals : Bool) (t : Term) (p : Posting)
    → IsUnder (tree_for literals new) t p
    ↔ (IsUnder (tree_for literals old) t p × (p.clause ≢ key))

-- the same postings are stored under the same terms
abbrev pub HoldSame : TwoTrees → TwoTrees → Type 0
HoldSame old new =
    (literals : Bool) (t : Term) (p : Posting)
    → IsUnder (tree_for literals new) t p ↔ IsUnder (tree_for literals old) t p
