-- Solution lists.
use Rattle.std.specs.Prelude.{[], ◌∷◌, codes, bytes_eq}
use Rattle.si_defs.specs.Terms as terms
use Rattle.si_defs.specs.Clauses.{Pattern, term_pattern}
use Rattle.si_defs.specs.Entries.{Entry, term_entry}
use Rattle.si_defs.specs.declared.Relation.TheVariants.{Instances}
use Rattle.si_defs.specs.Solutions.{IsTriangular}
use Rattle.si_defs.specs.Variables.{of_pattern, of_entry, Apart, Solution}
use Rattle.si_state.specs.Answers.{Solves}
use Rattle.si_examples.specs.Entries.{function, a, f_of_x}
use Rattle.si_examples.specs.Relations.{x, y, z, f_of_y}

-- ---- triangular lists
-- {Z -> X; X -> f(Y)} is triangular
abbrev pub Chain : Type 0
Chain = IsTriangular bytes_eq ((codes "Z", x) ∷ (codes "X", f_of_y) ∷ [])

-- {X -> f(X)} is not
abbrev pub NoCircle : Type 0
NoCircle = IsTriangular bytes_eq ((codes "X", f_of_x) ∷ []) → ⊥

-- {X -> f(Y); Y -> X} is not
abbrev pub NoWayBack : Type 0
NoWayBack = IsTriangular bytes_eq ((codes "X", f_of_y) ∷ (codes "Y", x) ∷ []) → ⊥

-- {X -> a; X -> a} is not: a variable stands on the left once
abbrev pub NoTwice : Type 0
NoTwice = IsTriangular bytes_eq ((codes "X", a) ∷ (codes "X", a) ∷ []) → ⊥

-- ---- canonical lists of instances
-- the pattern g(Y,Z) and the entry g(f(X),a)
abbrev pub first_pattern : Pattern
first_pattern = term_pattern (function (codes "g") (y ∷ z ∷ []))

abbrev pub first_entry : Entry
first_entry = term_entry (function (codes "g") (f_of_x ∷ a ∷ []))

-- the entry's f(X)
abbrev pub f_of_entry : Apart
f_of_entry = function (codes "f") (terms.var (of_entry (codes "X")) ∷ [])

-- {?Y -> f(X); ?Z -> a}
abbrev pub first_solution : Solution
first_solution = (of_pattern (codes "Y"), f_of_entry) ∷ (of_pattern (codes "Z"), a) ∷ []

-- it is the canonical list
abbrev pub CanonicalList : Type 0
CanonicalList = Solves Instances first_pattern first_entry first_solution

-- {?Z -> a; ?Y -> f(X)} is not: the order counts
abbrev pub NoOtherOrder : Type 0
NoOtherOrder =
    Solves Instances first_pattern first_entry
    ((of_pattern (codes "Z"), a) ∷ (of_pattern (codes "Y"), f_of_entry) ∷ []) → ⊥

-- {?Y -> f(X)} is not: each variable of the pattern is bound
abbrev pub NoneLeftOut : Type 0
NoneLeftOut =
    Solves Instances first_pattern first_entry ((of_pattern (codes "Y"), f_of_entry) ∷ []) → ⊥

-- for the pattern g(X,Y) and the entry g(a,a) {?X -> ?Y; ?Y -> a} is not: a variable is bound to
-- its image
abbrev pub NoFoldedList : Type 0
NoFoldedList =
    Solves Instances (term_pattern (function (codes "g") (x ∷ y ∷ [])))
    (term_entry (function (codes "g") (a ∷ a ∷ [])))
    ((of_pattern (codes "X"), terms.var (of_pattern (codes "Y")))
    ∷ (of_pattern (codes "Y"), a) ∷ [])
    → ⊥

-- a pattern without variables has the empty list
abbrev pub EmptyList : Type 0
EmptyList = Solves Instances (term_pattern a) (term_entry a) []
