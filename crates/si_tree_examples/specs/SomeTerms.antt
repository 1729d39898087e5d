-- Terms over a few symbols, by their numbers.
use Rattle.std.specs.Prelude.{ℕ, List, [], ◌∷◌, length}
use Rattle.si_defs.specs.Terms as terms
use Rattle.si_flat.specs.Cells.{query, entry, Term}

abbrev pub term_of : ℕ → List Term → Term
term_of number ts = terms.app (record { number = number; arity = length ts }) (terms.row ts)

abbrev pub f : List Term → Term
f ts = term_of 2 ts

abbrev pub g : Term → Term
g t = term_of 4 (t ∷ [])

abbrev pub a : Term
a = term_of 6 []

abbrev pub b : Term
b = term_of 8 []

abbrev pub c : Term
c = term_of 10 []

-- an entry's variable
abbrev pub x : ℕ → Term
x n = terms.var (entry n)

-- a query's variable
abbrev pub y : Term
y = terms.var (query 0)
