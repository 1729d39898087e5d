-- Clauses that are drawn at random.
use Rattle.std.specs.Prelude.{◌≡◌, ℕ, [], ◌∷◌, ◌++◌, codes}
use Rattle.si_defs.specs.Bytes.{Bytes}
use Rattle.si_defs.specs.Clauses.{Clause}
use Rattle.si_defs.specs.Entries.{state_entries}
use Rattle.si_defs.specs.Generator.{IsSample}
use Rattle.si_state.specs.Samples.{SumsAnswers}
use Rattle.si_examples.specs.Entries.{fact, predicate}

-- two clauses from the start 1
abbrev pub TwoClauses : Type 0
TwoClauses =
    IsSample 1 2 (codes "cnf(s1,axiom,q(Y)).\n" ++ codes "cnf(s2,axiom,~p(b,X)|q(f(X,X))).\n")

-- from each start there is a text of so many clauses
abbrev pub SomeText : Type 0
SomeText = (start count : ℕ) → (text : Bytes) × IsSample start count text

-- and no other
abbrev pub NoOtherText : Type 0
NoOtherText = (start count : ℕ) (text other : Bytes) → IsSample start count text
    → IsSample start count other → other ≡ text

-- the variable of the first clause is another one
abbrev pub NoOtherVariable : Type 0
NoOtherVariable = IsSample 1 1 (codes "cnf(s1,axiom,q(X)).\n") → ⊥

-- the numbers of the clauses begin with 1
abbrev pub NoClauseZero : Type 0
NoClauseZero = IsSample 1 1 (codes "cnf(s0,axiom,q(Y)).\n") → ⊥

-- the clause k: p was kept, and s: p is drawn
abbrev pub kept : Clause
kept = fact (codes "k") (predicate (codes "p") [])

abbrev pub drawn_fact : Clause
drawn_fact = fact (codes "s") (predicate (codes "p") [])

-- the one entry that is drawn unifies with itself, and with the one that was kept
abbrev pub KeptCounted : Type 0
KeptCounted =
    SumsAnswers (state_entries (kept ∷ drawn_fact ∷ [])) (state_entries (drawn_fact ∷ [])) 2
