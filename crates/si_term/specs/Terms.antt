-- What a symbol and a term of the program stand for.
use Rattle.std.specs.Prelude.{List, []}
use Rattle.si_defs.specs.Terms as terms
use Rattle.si_defs.specs.Symbols.{Symbol}
use Rattle.si_defs.specs.Clauses as clauses
use Rattle.si_term.specs.declared.term.Row.{Row}
use Rattle.si_term.specs.declared.term.Row.TheVariants.{Empty, One, Pair, Three, Many}
use Rattle.si_term.specs.declared.term.Sym.{Sym}
use Rattle.si_term.specs.declared.term.Term.{Term}
use Rattle.si_term.specs.declared.term.Term.TheVariants.{Var, App}

abbrev pub symbol_of : Sym → Symbol
symbol_of s = record { kind = s.kind; text = s.text; side = s.side; arity = s.arity }

abbrev pub term_of : Term → clauses.Term
term_of (Var x) = terms.var x
term_of (App s ts) = terms.app (symbol_of s) (terms.row ts)

-- the terms that stand in a row
abbrev pub terms_in : Row → List Term
terms_in Empty = []
terms_in (One terms) = terms.value
terms_in (Pair terms) = terms.value
terms_in (Three terms) = terms.value
terms_in (Many terms) = terms.value.items

-- three terms at most stand in the row, in a block of their own
abbrev pub HasFew : Row → Type 0
HasFew Empty = Unit {0}
HasFew (One terms) = Unit {0}
HasFew (Pair terms) = Unit {0}
HasFew (Three terms) = Unit {0}
HasFew (Many terms) = ⊥
