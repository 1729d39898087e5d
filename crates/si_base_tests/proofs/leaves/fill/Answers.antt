use Rattle.std.proofs.Common.{◌<◌, ◌+◌, ◌-◌, refl, arith}
use Rattle.si_legal.specs.Legal.{IsLeafTerm}
use Rattle.si_base_tests.proofs.Vectors as vectors
use Rattle.si_base_tests.proofs.Drops.{node_there}
use Rattle.si_base_tests.proofs.Postings.{all_of_none, all_inserted, may_insert_beside, stands_in}
use Rattle.si_base_tests.proofs.leaves.fill.Goals as goal

c_leaf : IsLeafTerm vectors.c
c_leaf = record { sound = (refl, tt); numbered = (0, refl); size = omega arith }

pub loop-number-init : goal.loop-number-init
loop-number-init k = all_of_none _ _ k.requires

pub put-requires : goal.put-requires
put-requires k =
    may_insert_beside (λ p. 40 < p.clause + k.loop-number.number) _ _ vectors.c (record { clause = 40 - k.loop-number.number; entry = 0 }) refl c_leaf k.loop-number.invariant (λ h. omega (arith, h, k.loop-number-test.true))

pub loop-number-preserved : goal.loop-number-preserved
loop-number-preserved k =
    all_inserted _ _ _ vectors.c (record { clause = 40 - k.loop-number.number; entry = 0 }) _ refl c_leaf k.in_ok-put.ensures.ok (λ p. 40 < p.clause + k.loop-number.number) (λ p. 40 < p.clause + (k.loop-number.number + 1)) k.in_ok-put.ensures.legal k.loop-number.invariant
    (λ q h. omega (arith, h)) (omega (arith, k.loop-number-test.true))

pub put-requires-2 : goal.put-requires-2
put-requires-2 k =
    may_insert_beside (λ p. 40 < p.clause + k.loop-number.number) _ _ vectors.c (record { clause = 0; entry = 0 }) refl c_leaf k.loop-number.invariant (λ h. omega (arith, h, k.loop-number.auto.number, k.loop-number.auto.number-end))

pub returns : goal.returns
returns k =
    node_there _ _ vectors.c (record { clause = 0; entry = 0 }) (stands_in _ _ _ vectors.c (record { clause = 0; entry = 0 }) _ refl c_leaf k.in_ok-leaf.ensures.ok)
