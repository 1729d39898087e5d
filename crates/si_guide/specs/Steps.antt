-- What the steps give: a clause that is read, two flat terms, an index, and what is shown of a hit.
use Rattle.std.specs.Prelude.{◌≡◌, ℕ, Bool, true, false, List, [], ◌∷◌, Option, None, Some}
use Rattle.si_defs.specs.Bytes.{Bytes}
use Rattle.si_defs.specs.Clauses as clauses
use Rattle.si_defs.specs.Clauses.{IsSoundClause, Pattern}
use Rattle.si_defs.specs.Entries.{Entry, Placed}
use Rattle.si_defs.specs.Grammar.{clause_item}
use Rattle.si_defs.specs.Symbols.{Numbering}
use Rattle.si_defs.specs.Texts.{BeginsWithItem}
use Rattle.si_defs.specs.declared.Relation.{Relation}
use Rattle.si_state.specs.Acceptance.{Refusal, Accepts, Refuses}
use Rattle.si_term.specs.Meaning.{clause_of}
use Rattle.si_term.specs.declared.clause.Clause.{Clause}
use Rattle.si_flat.specs.Flattened.{FlattensEntry, FlattensPattern}
use Rattle.si_parse.specs.Reading.{IsItemRead}
use Rattle.si_index.specs.Kept.{Kept}
use Rattle.si_index.specs.Finding.{AreHits, entries_from_position}
use Rattle.si_index.specs.Showing.{ShowsEntry}
use Rattle.si_index.specs.declared.found.Shown.{Shown}
use Rattle.si_guide.specs.declared.flattening.FlatPair.{FlatPair}

-- the text begins with this clause and with no other item, and the clause is sound; or it begins
-- with no clause
abbrev pub ReadsClause : Bytes → Option Clause → Type 0
ReadsClause text (Some c) =
    ((end : ℕ) × IsItemRead text 0 (clause_item (clause_of c)) end) × IsSoundClause (clause_of c)
ReadsClause text None = (c : clauses.Clause) (rest : Bytes)
    → BeginsWithItem text (clause_item c) rest → ⊥

-- both terms are flat, with the numbers of the table; or the table lacks a symbol of the entry
abbrev pub FlattensBoth : Numbering → Pattern → Entry → Option FlatPair → Type 0
FlattensBoth pairs pattern e (Some pair) =
    FlattensPattern pairs pattern pair.query × FlattensEntry pairs e (Some pair.entry)
FlattensBoth pairs pattern e None = FlattensEntry pairs e None

-- the index keeps the clause too; or the clause is refused, and the same are kept
abbrev pub KeepsClause : clauses.Clause → (old new : Kept) → Bool → Type 0
KeepsClause clause old new true = Accepts old.rules old.clauses clause new.clauses
KeepsClause clause old new false =
    ((refusal : Refusal) × Refuses old.rules old.clauses clause refusal)
    × (new.clauses ≡ old.clauses)

-- the first of the kept entries that stand in the relation is shown; or none stands in it
abbrev pub ShowsFirst : Kept → Relation → Pattern → Option Shown → Type 0
ShowsFirst index relation pattern (Some shown) =
    (hit : ℕ × Placed) × (others : List (ℕ × Placed))
    × AreHits relation pattern (entries_from_position 0 index.clauses) (hit ∷ others)
    × ShowsEntry index.numbers relation pattern hit.1.entry shown
ShowsFirst index relation pattern None =
    AreHits relation pattern (entries_from_position 0 index.clauses) []
