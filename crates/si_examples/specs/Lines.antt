-- What lines mean: their words, and the commands that they are.
use Rattle.std.specs.Prelude.{◌≡◌, true, [], ◌∷◌, codes}
use Rattle.si_defs.specs.Clauses.{literal_pattern}
use Rattle.si_defs.specs.Tokens.{upper, lower}
use Rattle.si_defs.specs.Grammar.{left_bracket, right_bracket}
use Rattle.si_defs.specs.declared.Relation.TheVariants.{Unifiable}
use Rattle.si_steps.specs.declared.word.Word.{Word}
use Rattle.si_steps.specs.Words.{command_text}
use Rattle.si_steps.specs.Commands.{Command, numeral, IsCommand, add, tree, explain, Means, AddsForeign}
use Rattle.si_examples.specs.Entries.{fact, predicate}
use Rattle.si_examples.specs.Relations.{y, z, p_of}

-- ---- words
-- two words with the same text are the same word
abbrev pub SameWord : Type 0
SameWord = (v w : Word) → command_text v ≡ command_text w → v ≡ w

-- ---- commands
-- a clause is added
abbrev pub AddedLine : Type 0
AddedLine = Means (add (fact (codes "c") (predicate (codes "p") []))) (codes "add cnf(c,axiom,p).")

-- a comment parts two words as a space does
abbrev pub CommentBehindWord : Type 0
CommentBehindWord =
    Means (add (fact (codes "c") (predicate (codes "p") []))) (codes "add/**/cnf(c,axiom,p).")

-- `instances f(Y)` is no command: whether literals or terms are asked for is not said
abbrev pub NoKindOfPattern : Type 0
NoKindOfPattern = (command : Command)
    → IsCommand command (lower (codes "instances") ∷ lower (codes "f") ∷ left_bracket
    ∷ upper (codes "Y") ∷ right_bracket ∷ []) → ⊥

-- the trees are shown
abbrev pub TreeLine : Type 0
TreeLine = Means tree (codes "tree")

-- after the word stand a relation and a pattern, as in a query
abbrev pub ExplainedQuery : Type 0
ExplainedQuery =
    Means (explain Unifiable (literal_pattern (record { positive = true; atom = p_of y z })))
    (codes "explain unifiable lit p(Y,Z)")

-- `tree f` is no command: all trees are shown, and none is asked for
abbrev pub NoTreeOfTerm : Type 0
NoTreeOfTerm = (command : Command)
    → IsCommand command (lower (codes "tree") ∷ lower (codes "f") ∷ []) → ⊥

-- nor is `explain lit p`: the relation isn't said
abbrev pub NoRelationToExplain : Type 0
NoRelationToExplain = (command : Command)
    → IsCommand command (lower (codes "explain") ∷ lower (codes "lit") ∷ lower (codes "p") ∷ [])
    → ⊥

-- `sample 1 0` is none: no clauses would be drawn
abbrev pub NoEmptySample : Type 0
NoEmptySample = (command : Command)
    → IsCommand command (lower (codes "sample") ∷ numeral 1 ∷ numeral 0 ∷ []) → ⊥

-- `add cnf(` adds no formula of another language
abbrev pub OwnLanguageAdded : Type 0
OwnLanguageAdded = AddsForeign (codes "add cnf(c,axiom,p).") → ⊥
