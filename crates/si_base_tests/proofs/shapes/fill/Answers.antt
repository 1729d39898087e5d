use Rattle.std.proofs.Common.{ℕ, refl, arith}
use Rattle.si_legal.specs.declared.Posting.{Posting}
use Rattle.si_legal.specs.Legal.{IsLeafTerm}
use Rattle.si_base_tests.proofs.Vectors.{constant, a, b, c, g}
use Rattle.si_base_tests.proofs.Postings.{none_stored, inserted, may_insert}
use Rattle.si_base_tests.proofs.shapes.fill.Goals as goal

abbrev first : Posting
first = record { clause = 0; entry = 0 }

abbrev second : Posting
second = record { clause = 1; entry = 5 }

abbrev third : Posting
third = record { clause = 2; entry = 0 }

constant_leaf : (n : ℕ) → IsLeafTerm (constant n)
constant_leaf n = record { sound = (refl, tt); numbered = (0, refl); size = omega arith }

g_leaf : (n : ℕ) → IsLeafTerm (g (constant n))
g_leaf n = record { sound = (refl, ((refl, tt), tt)); numbered = (0, refl); size = omega arith }

pub put-requires : goal.put-requires
put-requires k = may_insert _ _ (g a) first refl (g_leaf 6) (none_stored _ k.requires)

pub put-requires-2 : goal.put-requires-2
put-requires-2 k =
    may_insert _ _ (g b) second refl (g_leaf 8)
    (inserted _ _ _ (g a) first _ refl (g_leaf 6) k.in_ok-put.ensures.ok k.in_ok-put.ensures.legal (none_stored _ k.requires))

pub put-requires-3 : goal.put-requires-3
put-requires-3 k =
    let one = inserted _ _ _ (g a) first _ refl (g_leaf 6) k.in_ok-put.ensures.ok k.in_ok-put.ensures.legal (none_stored _ k.requires) in
    may_insert _ _ c third refl (constant_leaf 10)
    (inserted _ _ _ (g b) second _ refl (g_leaf 8) k.in_ok-put-2.ensures.ok k.in_ok-put-2.ensures.legal one)
