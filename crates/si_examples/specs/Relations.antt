-- Instances, variants and unifiable terms. No variable stands in both terms.
use Rattle.std.specs.Prelude.{[], ◌∷◌, codes, bytes_eq}
use Rattle.si_defs.specs.Clauses.{Term}
use Rattle.si_defs.specs.declared.Relation.TheVariants.{Variants}
use Rattle.si_defs.specs.Relations.{Relates, IsInstance, IsUnifiable}
use Rattle.si_examples.specs.Entries.{predicate, function, variable, a, constant}

abbrev pub x : Term
x = variable (codes "X")

abbrev pub y : Term
y = variable (codes "Y")

abbrev pub z : Term
z = variable (codes "Z")

-- f(Y)
abbrev pub f_of_y : Term
f_of_y = function (codes "f") (y ∷ [])

-- a predicate of two arguments
abbrev pub p_of : Term → Term → Term
p_of t u = predicate (codes "p") (t ∷ u ∷ [])

-- p(a,b) is no instance of p(X,X)
abbrev pub NoInstanceOfSquare : Type 0
NoInstanceOfSquare = IsInstance bytes_eq (p_of x x) (p_of a (constant (codes "b"))) → ⊥

-- f(Y) is an instance of X
abbrev pub InstanceOfVariable : Type 0
InstanceOfVariable = IsInstance bytes_eq x f_of_y

-- X is no instance of f(Y)
abbrev pub NoVariableInstance : Type 0
NoVariableInstance = IsInstance bytes_eq f_of_y x → ⊥

-- p(X,Y) and p(Z,V) are variants of each other
abbrev pub RenamedPair : Type 0
RenamedPair = Relates bytes_eq Variants (p_of x y) (p_of z (variable (codes "V")))

-- p(X,Y) and p(Z,Z) are none, though the second is an instance of the first
abbrev pub NoVariantOfSquare : Type 0
NoVariantOfSquare =
    IsInstance bytes_eq (p_of x y) (p_of z z)
    × (Relates bytes_eq Variants (p_of x y) (p_of z z) → ⊥)

-- p(X,a) and p(b,Y) are unifiable
abbrev pub UnifiablePair : Type 0
UnifiablePair = IsUnifiable bytes_eq (p_of x a) (p_of (constant (codes "b")) y)

-- p(X,X) and p(Y,f(Y)) are not
abbrev pub NoCycle : Type 0
NoCycle = IsUnifiable bytes_eq (p_of x x) (p_of y f_of_y) → ⊥
