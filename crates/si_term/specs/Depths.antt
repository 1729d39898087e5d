-- An argument is smaller than its term.
use Rattle.std.specs.Prelude.{ℕ, ◌+◌, ◌≤◌, List, [], ◌∷◌, map, max}
use Rattle.std.proofs.Common.{arith}
use denote.Param.Weighed.{most}
use Rattle.si_defs.specs.Terms as terms
use Rattle.si_term.specs.declared.term.Row.{Row}
use Rattle.si_term.specs.declared.term.Row.TheVariants.{Empty, One, Pair, Three, Many}
use Rattle.si_term.specs.declared.term.Term.{Term}
use Rattle.si_term.specs.declared.term.Term.TheVariants.{Var, App}
use Rattle.si_term.specs.declared.term.Terms.TheDeep.{deep-Row}
use Rattle.si_term.specs.Terms.{term_of, terms_in}

-- how deep the arguments of a term nest, as the checker counts it
abbrev pub nested_below : Term → ℕ
nested_below (Var x) = 0
nested_below (App s ts) = max (terms.sizes (terms.row ts) + 1) 0

below_size : (t : Term) → nested_below t ≤ terms.size (term_of t)
below_size (Var x) = omega arith
below_size (App s ts) = omega arith

most_below : (items : List Term)
    → most nested_below items ≤ terms.sizes (terms.row (map term_of items))
most_below [] = omega arith
most_below (t ∷ ts) = omega (arith, below_size t, most_below ts)

pub deepest : (row : Row) → max (deep-Row row) 0 ≤ terms.sizes (terms.row (map term_of (terms_in row)))
deepest Empty = omega arith
deepest (One ts) = omega (arith, most_below ts.value)
deepest (Pair ts) = omega (arith, most_below ts.value)
deepest (Three ts) = omega (arith, most_below ts.value)
deepest (Many ts) = omega (arith, most_below ts.value.items)
