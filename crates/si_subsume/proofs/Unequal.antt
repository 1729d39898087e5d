-- Terms with different heads, which no substitution makes equal; and slices that are terms.
use Rattle.std.proofs.Common.{◌≡◌, ℕ, zero, suc, ◌<◌, List, [], ◌∷◌, length, get_or, ap, subst, arith}
use Rattle.std.specs.Borrow.{Bor}
use Rattle.si_defs.specs.Terms as terms
use Rattle.si_flat.specs.declared.Cell.{Cell}
use Rattle.si_flat.specs.declared.Cell.TheVariants as cell
use Rattle.si_flat.specs.Cells.{Symbol, Variable, query, entry, ind, Term, IsWhole, cells_of}
use Rattle.si_unify.specs.declared.slots.Slots.{Slots}
use Rattle.si_unify.specs.Solving.{Pairs, HaveCommon}
use Rattle.si_subsume.specs.Search.{Slices, IsFlatLiteral, AreFlatLiterals, HaveOtherHeads}

first : Term → Cell
first t = get_or (cells_of t) 0 (cell.App 0 0 0)

unequal : (f : Variable → Term) (t u : Term) → HaveOtherHeads (get_or (cells_of t) 0 (cell.App 0 0 0)) (get_or (cells_of u) 0 (cell.App 0 0 0)) → terms.substitute f t ≡ terms.substitute f u → ⊥
unequal f (terms.var (query n)) u h e = h
unequal f (terms.var (entry n)) u h e = h
unequal f (terms.var (ind n)) u h e = h
unequal f (terms.app s ts) (terms.var (query n)) h e = h
unequal f (terms.app s ts) (terms.var (entry n)) h e = h
unequal f (terms.app s ts) (terms.var (ind n)) h e = h
unequal f (terms.app s ts) (terms.app r us) h e = h (ap (λ (q : Symbol). q.number) same, ap (λ (q : Symbol). q.arity) same)
  where
    same : s ≡ r
    same = cc

pub never_equal : (slots : Slots) (pairs : Pairs) (literal target : List Cell)
    → IsWhole literal
    → IsWhole target
    → HaveOtherHeads (get_or literal 0 (cell.App 0 0 0)) (get_or target 0 (cell.App 0 0 0))
    → HaveCommon slots pairs literal target → ⊥
never_equal slots pairs literal target l k h common =
    unequal _ l.0 k.0
    (subst (λ c. HaveOtherHeads c (get_or (cells_of k.0) 0 (cell.App 0 0 0))) (ap (λ cs. get_or cs 0 (cell.App 0 0 0)) l.1.cells_are) (subst (λ c. HaveOtherHeads (get_or literal 0 (cell.App 0 0 0)) c) (ap (λ cs. get_or cs 0 (cell.App 0 0 0)) k.1.cells_are) h))
    (common.1.1 l.0 k.0 l.1 k.1)

-- the slice that an index read
pub term_read : (slots : Slots) (all : Slices) (n : ℕ) (d : Bor (List Cell)) → AreFlatLiterals slots all → n < length all → IsFlatLiteral slots (get_or all n d).now
term_read slots [] n d h less = absurd (omega (arith, less))
term_read slots (b ∷ bs) zero d h less = h.0
term_read slots (b ∷ bs) (suc n) d h less = term_read slots bs n d h.1 (omega (arith, less))
