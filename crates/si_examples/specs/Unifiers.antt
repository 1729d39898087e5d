-- The canonical list of a unification.
use Rattle.std.specs.Prelude.{[], ◌∷◌, codes}
use Rattle.si_defs.specs.Terms as terms
use Rattle.si_defs.specs.declared.Relation.TheVariants.{Unifiable}
use Rattle.si_defs.specs.Solutions.{IsCanonical}
use Rattle.si_defs.specs.Variables.{Variable, of_pattern, of_entry, same_variable, Apart, Solution}
use Rattle.si_examples.specs.Entries.{function}

-- a variable of the pattern and one of the entry
abbrev pub asked : Variable
asked = of_pattern (codes "X")

abbrev pub kept_variable : Variable
kept_variable = of_entry (codes "Y")

abbrev pub asked_term : Apart
asked_term = terms.var asked

abbrev pub kept_term : Apart
kept_term = terms.var kept_variable

-- ?X and Y have the list {Y -> ?X}: the pattern's variable comes first, and stands for both
abbrev pub FirstVariableLeads : Type 0
FirstVariableLeads =
    IsCanonical same_variable Unifiable asked_term kept_term ((kept_variable, asked_term) ∷ [])

-- {?X -> Y} is not the list
abbrev pub SecondVariableFollows : Type 0
SecondVariableFollows =
    IsCanonical same_variable Unifiable asked_term kept_term ((asked, kept_term) ∷ []) → ⊥

-- nor is the list empty
abbrev pub NoEmptyList : Type 0
NoEmptyList = IsCanonical same_variable Unifiable asked_term kept_term [] → ⊥

-- ---- terms
-- f(Y) and h(f(Y)), of an entry
abbrev pub part : Apart
part = function (codes "f") (kept_term ∷ [])

abbrev pub whole : Apart
whole = function (codes "h") (part ∷ [])

-- ?X and ?Z, of a pattern
abbrev pub other : Variable
other = of_pattern (codes "Z")

abbrev pub both_asked : Apart
both_asked = function (codes "g") (asked_term ∷ terms.var other ∷ [])

-- ?X and f(Y) have the list {?X -> f(Y)}
abbrev pub BoundToTerm : Type 0
BoundToTerm = IsCanonical same_variable Unifiable asked_term part ((asked, part) ∷ [])

-- g(?X,?X) and g(Y,f(Y)) have none
abbrev pub NoListOfCycle : Type 0
NoListOfCycle = (list : Solution)
    → IsCanonical same_variable Unifiable (function (codes "g") (asked_term ∷ asked_term ∷ []))
    (function (codes "g") (kept_term ∷ part ∷ [])) list → ⊥

-- the list of g(?X,?Z) and g(f(Y),f(Y)) is {?Z -> ?X; ?X -> f(Y)}: the first of two equal variables
-- stands for both
abbrev pub EqualVariables : Type 0
EqualVariables =
    IsCanonical same_variable Unifiable both_asked (function (codes "g") (part ∷ part ∷ []))
    ((other, asked_term) ∷ (asked, part) ∷ [])

-- and not {?X -> f(Y); ?Z -> f(Y)}
abbrev pub NoTermTwice : Type 0
NoTermTwice =
    IsCanonical same_variable Unifiable both_asked (function (codes "g") (part ∷ part ∷ []))
    ((asked, part) ∷ (other, part) ∷ []) → ⊥

-- nor is {?X -> f(Y); ?Z -> h(f(Y))} that of g(?X,?Z) and g(f(Y),h(f(Y))), where ?X stands for the
-- part f(Y)
abbrev pub NoPartForVariable : Type 0
NoPartForVariable =
    IsCanonical same_variable Unifiable both_asked (function (codes "g") (part ∷ whole ∷ []))
    ((asked, part) ∷ (other, whole) ∷ []) → ⊥
