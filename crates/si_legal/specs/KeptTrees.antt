-- What two trees hold of some clauses that are kept: the one their literals, and the other their
-- subterms (this project's profile).
use Rattle.std.specs.Prelude.{◌≡◌, ℕ, ◌↔◌, Bool, true, false, List, map, Some, slice_get}
use Rattle.std.specs.List.{AllByRecursion}
use Rattle.si_defs.specs.Symbols.{Numbering, IsNumbering}
use Rattle.si_defs.specs.Substitutions.{IsAmong, AreDistinct}
use Rattle.si_defs.specs.Clauses.{Clause}
use Rattle.si_defs.specs.Entries.{Entry, literal_entry, term_entry, Placed, entries, state_symbols}
use Rattle.si_flat.specs.Cells.{entry, Term}
use Rattle.si_flat.specs.Flattened.{numbered_entry, has_number}
use Rattle.si_legal.specs.declared.Posting.{Posting}
use Rattle.si_legal.specs.Trees.{Tree}
use Rattle.si_legal.specs.Legal.{IsLegal}
use Rattle.si_legal.specs.StoredSets.{IsUnder}

abbrev pub is_literal : Entry → Bool
is_literal (literal_entry l) = true
is_literal (term_entry t) = false

-- the posting is that of this entry: its clause's key, and its number from 0 in the clause
pub record IsPostingOf (kept : List (ℕ × Clause)) (p : Posting) (e : Entry) : Type 0 where
  pub clause : Clause
  pub placed : Placed
  pub is_kept : IsAmong kept (p.clause, clause)
  pub numbered : slice_get (entries clause) p.entry ≡ Some placed
  pub entry_is : placed.entry ≡ e

-- Under the term of each kept entry of one kind, with these numbers for its symbols, the tree has
-- the entry's posting, and nothing else.
abbrev pub HoldsEntries : Numbering → List (ℕ × Clause) → Bool → Tree Term → Type 0
HoldsEntries numbers kept literals tree =
    (t : Term) (p : Posting)
    → IsUnder tree t p
    ↔ ((e : Entry) × IsPostingOf kept p e × (is_literal e ≡ literals)
    × (t ≡ numbered_entry numbers entry e))

-- each symbol of the clauses has a number
abbrev pub NumbersAll : Numbering → List Clause → Type 0
NumbersAll numbers clauses =
    AllByRecursion (λ s. has_number numbers s ≡ true) (state_symbols clauses)

-- Two legal trees hold the postings of exactly the kept entries, by these numbers of their symbols
-- and these keys of their clauses.
pub record HoldKept (numbers : Numbering) (kept : List (ℕ × Clause))
    (literals subterms : Tree Term) : Type 0 where
  pub keys : AreDistinct (map (λ k. k.0) kept)
  pub numbering : IsNumbering numbers
  pub numbered : NumbersAll numbers (map (λ k. k.1) kept)
  pub literals_legal : IsLegal literals
  pub subterms_legal : IsLegal subterms
  pub literals_held : HoldsEntries numbers kept true literals
  pub subterms_held : HoldsEntries numbers kept false subterms
