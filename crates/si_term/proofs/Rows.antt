-- Arguments of the program's terms, one after the other.
use Rattle.std.proofs.Common.{◌≡◌, ℕ, zero, suc, ◌+◌, ◌<◌, ◌≤◌, List, [], ◌∷◌, length, get_or, drop, map, ap, sym, ◌∙◌, add-one, arith, drop-cons}
use Rattle.std.proofs.Math.ListN.{drop_of_length-le}
use Rattle.si_defs.specs.Terms as terms
use Rattle.si_defs.specs.Clauses as clauses
use Rattle.si_term.specs.Terms.{symbol_of, term_of}
use Rattle.si_term.specs.declared.term.Sym.{Sym}
use Rattle.si_term.specs.declared.term.Term.{Term}
use Rattle.si_term.specs.declared.term.Term.TheVariants.{App}

-- an argument is no larger than all of them
pub size-at : (ts : List Term) (i : ℕ) (d : Term) → i < length ts → terms.size (term_of (get_or ts i d)) ≤ terms.sizes (terms.row (map term_of ts))
size-at [] i d h = absurd (omega arith)
size-at (t ∷ ts) zero d h = omega arith
size-at (t ∷ ts) (suc i) d h = omega (arith, size-at ts i d (omega arith))

-- the arguments from the one with number i on
abbrev pub from : List Term → ℕ → clauses.Terms
from ts i = terms.row (map term_of (drop i ts))

pub row-drop : (ts : List Term) (i : ℕ) (d : Term) → i < length ts → from ts i ≡ terms.more (term_of (get_or ts i d)) (from ts (suc i))
row-drop ts i d h = ap (λ l. terms.row (map term_of l)) (drop-cons ts i d h)

-- the same, with what an index read
pub from-read : (ts : List Term) (i : ℕ) (t : Term) → i < length ts → t ≡ get_or ts i t → from ts i ≡ terms.more (term_of t) (from ts (i + 1))
from-read ts i t h read = row-drop ts i t h ∙ λ j. terms.more (term_of (sym read j)) (from ts (sym (add-one i) j))

-- there is none after the last
pub from-end : (ts : List Term) (i : ℕ) → length ts ≤ i → from ts i ≡ terms.none
from-end ts i h = ap (λ l. terms.row (map term_of l)) (drop_of_length-le ts h)

pub positive : (t : clauses.Term) → 1 ≤ terms.size t
positive (terms.var x) = omega arith
positive (terms.app s ts) = omega arith

-- there are no more arguments than symbols and variables in them
pub length-sizes : (ts : List Term) → length ts ≤ terms.sizes (terms.row (map term_of ts))
length-sizes [] = omega arith
length-sizes (t ∷ ts) = omega (arith, length-sizes ts, positive (term_of t))

-- an argument that an index read is no larger than all of them
pub size-read : (ts : List Term) (i : ℕ) (t : Term) → i < length ts → t ≡ get_or ts i t → terms.size (term_of t) ≤ terms.sizes (terms.row (map term_of ts))
size-read ts i t h read = omega (arith, size-at ts i t h, ap (λ (u : Term). terms.size (term_of u)) read)

-- a term whose arguments were seen as a slice
pub app-term : (t : Term) (s : Sym) (args : List clauses.Term) (us : List Term) → t ≡ App s args → map term_of us ≡ args → term_of t ≡ terms.app (symbol_of s) (terms.row (map term_of us))
app-term t s args us is seen = ap term_of is ∙ ap (λ (l : List clauses.Term). terms.app (symbol_of s) (terms.row l)) (sym seen)
