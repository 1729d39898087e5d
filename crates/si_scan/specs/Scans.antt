-- What a scan answers, and how it comes to it.
use Rattle.std.specs.Prelude.{◌≡◌, ◌⊎◌, ℕ, ◌+◌, Bool, List, [], ◌∷◌, ◌++◌}
use Rattle.std.specs.List.{AllByRecursion}
use Rattle.si_defs.specs.Symbols.{Numbering}
use Rattle.si_defs.specs.Clauses.{Clause}
use Rattle.si_defs.specs.Entries.{Entry}
use Rattle.si_defs.specs.Relations.{Relates}
use Rattle.si_defs.specs.declared.Relation.{Relation}
use Rattle.si_state.specs.Signatures.{numbering}
use Rattle.si_term.specs.Walks.{entries_alone}
use Rattle.si_flat.specs.declared.Cell.{Cell}
use Rattle.si_flat.specs.Cells.{entry, same_variable, Term, StandsFor, IsWhole}
use Rattle.si_flat.specs.Flattened.{numbered_entry}
use Rattle.si_legal.specs.declared.Posting.{Posting}
use Rattle.si_legal.specs.KeptTrees.{is_literal, IsPostingOf}
use Rattle.si_index.specs.Kept.{Kept, kept_clauses}
use Rattle.si_index.specs.Engines.{IsWantedEntry}
use Rattle.si_index.specs.Searching.{IsKnownClause}
use Rattle.si_scan.specs.declared.question.Question.{Question}

-- ---- a question
abbrev pub numbers_of : Question → Numbering
numbers_of q = numbering q.signature.now

abbrev pub Wants : Question → Entry → Type 0
Wants q e = IsWantedEntry (numbers_of q) q.literal q.relation q.query e

-- its query is one term
abbrev pub IsReadyToScan : Question → Type 0
IsReadyToScan q = IsWhole q.query

-- it is asked with the numbers of the index, which has one for each symbol
pub record IsOver (kept : Kept) (q : Question) : Type 0 where
  pub numbers : numbers_of q ≡ kept.numbers
  pub known : AllByRecursion (IsKnownClause (numbers_of q)) kept.clauses

-- ---- entries with their postings
-- those of a clause with this key; the first has the number n
abbrev pub posted : ℕ → ℕ → List Entry → List (Posting × Entry)
posted key n [] = []
posted key n (e ∷ es) = (record { clause = key; entry = n }, e) ∷ posted key (1 + n) es

-- those of clauses, each with its key
abbrev pub all_posted : List (ℕ × Clause) → List (Posting × Entry)
all_posted [] = []
all_posted (k ∷ ks) = posted k.0 0 (entries_alone k.1.literals) ++ all_posted ks

-- in order, exactly the postings of the entries that are wanted
abbrev pub AreOfWanted : (Entry → Type 0) → List (Posting × Entry) → List Posting → Type 0
AreOfWanted W [] ps = ps ≡ []
AreOfWanted W (x ∷ xs) ps =
    (W x.1 × ((others : List Posting) × AreOfWanted W xs others × (ps ≡ x.0 ∷ others)))
    ⊎ ((W x.1 → ⊥) × AreOfWanted W xs ps)

-- these were added
pub record AddsWanted (W : Entry → Type 0) (xs : List (Posting × Entry))
    (old new : List Posting) : Type 0 where
  pub more : List Posting
  pub appended : new ≡ old ++ more
  pub wanted : AreOfWanted W xs more
