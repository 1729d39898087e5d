use Rattle.std.proofs.Common.{ℕ, refl, arith}
use Rattle.si_legal.specs.declared.Posting.{Posting}
use Rattle.si_legal.specs.Legal.{IsLeafTerm}
use Rattle.si_base_tests.proofs.Vectors.{constant, a, b, c, g}
use Rattle.si_tree.proofs.PostingSteps.{has_posting}
use Rattle.si_base_tests.proofs.Postings.{none_stored, dropped, inserted, stands_in, may_insert}
use Rattle.si_base_tests.proofs.insertions.assert_serves.Goals as goal

abbrev first : Posting
first = record { clause = 0; entry = 0 }

abbrev second : Posting
second = record { clause = 1; entry = 5 }

abbrev third : Posting
third = record { clause = 2; entry = 0 }

abbrev fourth : Posting
fourth = record { clause = 3; entry = 0 }

constant_leaf : (n : ℕ) → IsLeafTerm (constant n)
constant_leaf n = record { sound = (refl, tt); numbered = (0, refl); size = omega arith }

g_leaf : (n : ℕ) → IsLeafTerm (g (constant n))
g_leaf n = record { sound = (refl, ((refl, tt), tt)); numbered = (0, refl); size = omega arith }

pub put-requires : goal.put-requires
put-requires h k = may_insert _ _ (g a) first refl (g_leaf 6) (none_stored _ k.requires)

pub put-requires-2 : goal.put-requires-2
put-requires-2 h k =
    may_insert _ _ (g b) second refl (g_leaf 8)
    (inserted _ _ _ (g a) first _ refl (g_leaf 6) k.in_ok-put.ensures.ok k.in_ok-put.ensures.legal (none_stored _ k.requires))

pub drop_posting-requires : goal.drop_posting-requires
drop_posting-requires h k =
    has_posting _ _ (g b) second (stands_in _ _ _ (g b) second _ refl (g_leaf 8) k.in_ok-leaf.ensures.ok)

pub put-requires-3 : goal.put-requires-3
put-requires-3 h k =
    let one = inserted _ _ _ (g a) first _ refl (g_leaf 6) k.in_ok-put.ensures.ok k.in_ok-put.ensures.legal (none_stored _ k.requires) in
    let two = inserted _ _ _ (g b) second _ refl (g_leaf 8) k.in_ok-leaf.ensures.ok k.in_ok-leaf.ensures.legal one in
    may_insert _ _ c third refl (constant_leaf 10)
    (dropped _ _ _ (g b) second 2 k.root.ensures.legal two (stands_in _ _ _ (g b) second _ refl (g_leaf 8) k.in_ok-leaf.ensures.ok) k.drop_posting.ensures)

pub put-requires-4 : goal.put-requires-4
put-requires-4 h k =
    let one = inserted _ _ _ (g a) first _ refl (g_leaf 6) k.in_ok-put.ensures.ok k.in_ok-put.ensures.legal (none_stored _ k.requires) in
    let two = inserted _ _ _ (g b) second _ refl (g_leaf 8) k.in_ok-leaf.ensures.ok k.in_ok-leaf.ensures.legal one in
    let left = dropped _ _ _ (g b) second 2 k.root.ensures.legal two (stands_in _ _ _ (g b) second _ refl (g_leaf 8) k.in_ok-leaf.ensures.ok) k.drop_posting.ensures in
    may_insert _ _ (g b) fourth refl (g_leaf 8)
    (inserted _ _ _ c third _ refl (constant_leaf 10) k.in_ok-put-2.ensures.ok k.in_ok-put-2.ensures.legal left)

pub remove-requires : goal.remove-requires
remove-requires h k =
    has_posting _ _ (g b) fourth (stands_in _ _ _ (g b) fourth _ refl (g_leaf 8) k.in_ok-again.ensures.ok)
