-- Which clauses hold an instance of a literal.
use Rattle.std.specs.Prelude.{◌≡◌, ℕ, Bool, false, List, Some, slice_get}
use Rattle.si_defs.specs.Clauses.{Literal, Clause, literal_pattern}
use Rattle.si_defs.specs.Entries.{literal_entry}
use Rattle.si_defs.specs.Substitutions.{IsAmong}
use Rattle.si_defs.specs.declared.Relation.TheVariants.{Instances}
use Rattle.si_state.specs.Answers.{Stands}
use Rattle.si_term.specs.Meaning.{clause_of}
use Rattle.si_term.specs.declared.clause.Clause as term
use Rattle.si_legal.specs.declared.Posting.{Posting}
use Rattle.si_index.specs.Slots.{Slots, IsIn}
use Rattle.si_index.specs.declared.holding.Holders.{Holders}

-- the slot is marked as that of a clause that holds none
abbrev pub IsRuledOut : Holders → ℕ → Type 0
IsRuledOut holders slot = slice_get holders.marks.items slot ≡ Some false

-- a literal of the clause is an instance of this one
abbrev pub HoldsInstance : Literal → Clause → Type 0
HoldsInstance l c = (n : ℕ) × (k : Literal) × (slice_get c.literals n ≡ Some k)
    × Stands Instances (literal_pattern l) (literal_entry k)

-- in a slot that is ruled out no clause has this property
abbrev pub Spares : (Clause → Type 0) → Slots → Holders → Type 0
Spares P slots holders = (slot key : ℕ) (c : term.Clause) → IsRuledOut holders slot
    → IsAmong slots (slot, (key, c)) → P (clause_of c) → ⊥

-- no clause that holds an instance stands in a slot that is ruled out
abbrev pub SparesHolders : Slots → Literal → Holders → Type 0
SparesHolders slots l = Spares (HoldsInstance l) slots

-- no clause that has one of these postings stands in a slot whose mark is false
abbrev pub MarksAll : Slots → List Posting → List Bool → Type 0
MarksAll slots postings marks = (slot : ℕ) → slice_get marks slot ≡ Some false
    → (p : Posting) → IsAmong postings p → IsIn slots slot p.clause → ⊥
