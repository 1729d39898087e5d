-- That where a relation holds there is a canonical list, and one alone.
use Rattle.std.specs.Prelude.{◌≡◌, List}
use Rattle.si_defs.specs.Clauses.{Clause, Term, Pattern}
use Rattle.si_defs.specs.Entries.{Entry, Placed}
use Rattle.si_defs.specs.Variables.{same_variable, pattern_term, entry_term, Solution}
use Rattle.si_defs.specs.declared.Relation.{Relation}
use Rattle.si_defs.specs.Relations.{Relates}
use Rattle.si_defs.specs.Solutions.{IsCanonical}
use Rattle.si_state.specs.Answers.{Stands, Solves, Hit, IsAnswer}

-- exactly one list is so
abbrev pub IsOfOne : (Solution → Type 0) → Type 0
IsOfOne P = (list : Solution) × P list × ((other : Solution) → P other → other ≡ list)

-- a pattern's term and an entry's that stand in the relation have exactly one canonical list
abbrev pub HasExactlyOneList : Relation → Type 0
HasExactlyOneList relation =
    (p u : Term) → Relates same_variable relation (pattern_term p) (entry_term u)
    → IsOfOne (IsCanonical same_variable relation (pattern_term p) (entry_term u))

-- so have a pattern and an entry
abbrev pub HasExactlyOneSolution : Relation → Type 0
HasExactlyOneSolution relation =
    (pattern : Pattern) (entry : Entry) → Stands relation pattern entry
    → IsOfOne (Solves relation pattern entry)

-- it isn't so that there is none
abbrev pub IsNotAbsent : Type 0 → Type 0
IsNotAbsent P = (P → ⊥) → ⊥

-- A pattern has an answer among any entries. (Which of them stand in the relation isn't decided
-- here.)
abbrev pub HasAnAnswer : Relation → Type 0
HasAnAnswer relation =
    (pattern : Pattern) (entries : List (Clause × Placed))
    → IsNotAbsent ((hits : List Hit) × IsAnswer relation pattern entries hits)
