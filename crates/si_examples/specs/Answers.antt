-- The answer to a pattern, over one clause.
use Rattle.std.specs.Prelude.{[], ◌∷◌, codes}
use Rattle.si_defs.specs.Terms as terms
use Rattle.si_defs.specs.Clauses.{Pattern, term_pattern}
use Rattle.si_defs.specs.Entries.{term_entry, state_entries}
use Rattle.si_defs.specs.declared.Relation.TheVariants.{Instances, Generalizations}
use Rattle.si_defs.specs.Variables.{of_pattern, of_entry}
use Rattle.si_state.specs.States.{State}
use Rattle.si_state.specs.Answers.{Hit, IsAnswer, Stands}
use Rattle.si_steps.specs.Settings.{Setting}
use Rattle.si_steps.specs.Commands.{query, explain}
use Rattle.si_steps.specs.Steps.{Performs}
use Rattle.si_examples.specs.Entries.{first_atom, fact, f_of_x, a, placed, positive_literal, keeping}
use Rattle.si_examples.specs.Relations.{x, f_of_y}

-- the clause c1: p(f(X),a)
abbrev pub state : State
state = keeping (fact (codes "c1") first_atom ∷ [])

-- the pattern f(Y)
abbrev pub pattern : Pattern
pattern = term_pattern f_of_y

-- the one entry that is an instance of it: f(X)
abbrev pub hit : Hit
hit = record {
  clause = fact (codes "c1") first_atom;
  placed = placed (term_entry f_of_x) (1 ∷ []);
  solution = (of_pattern (codes "Y"), terms.var (of_entry (codes "X"))) ∷ [];
}

-- of the literal, f(X) and a the second alone is answered
abbrev pub OneHit : Type 0
OneHit = IsAnswer Instances pattern (state_entries state.clauses) (hit ∷ [])

-- so the reply has its line, and then the number of hits
abbrev pub AnsweredPattern : Type 0
AnsweredPattern = (setting : Setting)
    → Performs setting (query Instances pattern) state
    (codes "c1:1:1 {?Y -> X}" ∷ codes "end 1" ∷ []) state

-- and `explain` tells that there is one. How many nodes there are, and how many are open, is free.
abbrev pub ExplainedPattern : Type 0
ExplainedPattern = (setting : Setting)
    → Performs setting (explain Instances pattern) state
    (codes "passed 2 nodes 3 answers 1" ∷ []) state

-- that there is none is wrong, whatever the state after it
abbrev pub NoAnswerUnreported : Type 0
NoAnswerUnreported = (setting : Setting) (new : State)
    → Performs setting (explain Instances pattern) state
    (codes "passed 2 nodes 3 answers 0" ∷ []) new → ⊥

-- the hit may not be left out
abbrev pub NoHitLeftOut : Type 0
NoHitLeftOut = IsAnswer Instances pattern (state_entries state.clauses) [] → ⊥

-- nor answered twice
abbrev pub NoHitTwice : Type 0
NoHitTwice = IsAnswer Instances pattern (state_entries state.clauses) (hit ∷ hit ∷ []) → ⊥

-- the entry a is no generalization of f(Y)
abbrev pub NoGeneralization : Type 0
NoGeneralization = Stands Generalizations pattern (term_entry a) → ⊥

-- the literal p(f(X),a) is no instance of the term pattern X
abbrev pub NoLiteralOfTerm : Type 0
NoLiteralOfTerm = Stands Instances (term_pattern x) (positive_literal first_atom) → ⊥
