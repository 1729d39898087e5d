-- Terms with numbers in place of their symbols and variables.
use Rattle.std.specs.Prelude.{ℕ, ◌+◌, Bool, true, false, cond, List, [], ◌∷◌}
use Rattle.si_defs.specs.Terms as terms
use Rattle.si_defs.specs.Symbols as symbols
use Rattle.si_defs.specs.Symbols.{Numbering, same_symbol}
use Rattle.si_defs.specs.declared.Side.{Side}
use Rattle.si_defs.specs.declared.Side.TheVariants.{Predicate, Function}
use Rattle.si_flat.specs.Cells.{Variable, Term, Terms}

-- the symbol's number, and 0 where it has none
abbrev pub number_in : Numbering → symbols.Symbol → ℕ
number_in [] s = 0
number_in (pair ∷ pairs) s = cond (same_symbol pair.0 s) pair.1 (number_in pairs s)

-- the same numbers, but that those of the predicates of a negative literal are one above
abbrev pub one_above : Side → ℕ → ℕ
one_above Predicate n = 1 + n
one_above Function n = n

abbrev pub signed : Bool → (symbols.Symbol → ℕ) → symbols.Symbol → ℕ
signed true number s = number s
signed false number s = one_above s.side (number s)

-- how many stand before x
abbrev pub place_in : {V : Type 0} → (V → V → Bool) → List V → V → ℕ
place_in same [] x = 0
place_in same (y ∷ ys) x = cond (same y x) 0 (1 + place_in same ys x)

-- the term with these numbers for its symbols and these variables for its own
abbrev mutual
  pub numbered : {V : Type 0} → (symbols.Symbol → ℕ) → (V → Variable)
      → terms.Term symbols.Symbol V → Term
  numbered number variable (terms.var x) = terms.var (variable x)
  numbered number variable (terms.app s ts) =
      terms.app (record { number = number s; arity = s.arity }) (all_numbered number variable ts)

  pub all_numbered : {V : Type 0} → (symbols.Symbol → ℕ) → (V → Variable)
      → terms.Terms symbols.Symbol V → Terms
  all_numbered number variable terms.none = terms.none
  all_numbered number variable (terms.more t ts) =
      terms.more (numbered number variable t) (all_numbered number variable ts)
