use Rattle.std.proofs.Common.{◌<◌, length, sym, ◌∙◌, ap, subst, arith}
use Rattle.std.specs.List.{AllByRecursion}
use Rattle.si_form.specs.Ordering.{uses_at, list_or_none, times_among}
use Rattle.si_form.proofs.OrderingLaws.{listed_at, below_more, times_few}
use Rattle.si_form.proofs.order.count.Goals as goal

pub raise_each-requires-clause-inside : goal.raise_each-requires-clause-inside
raise_each-requires-clause-inside c =
    let listed = listed_at c.args.lists.now c.loop-k.k _ _ c.loop-k-test.true c.index-lists-k.is c.in-Some.is in
    subst (λ n. AllByRecursion (λ j. j < n) c.deref.result.now) (sym c.loop-k.invariant.0)
    (subst (AllByRecursion (λ j. j < length c.args.lists.now)) (ap list_or_none listed ∙ sym c.deref.ensures.value) (c.requires.used_inside c.loop-k.k))

pub raise_each-requires-clause-room : goal.raise_each-requires-clause-room
raise_each-requires-clause-room c = λ j.
    omega (arith, c.loop-k.invariant.2 j, c.in-Some.used.small, c.in-Some.used.ok, ap length c.deref.ensures.value, c.loop-k.auto.k-end)

pub loop-k-preserved : goal.loop-k-preserved
loop-k-preserved c =
    let listed = listed_at c.args.lists.now c.loop-k.k _ _ c.loop-k-test.true c.index-lists-k.is c.in-Some.is in (
      c.raise_each.ensures.long ∙ c.loop-k.invariant.0,
      (λ j.
          c.raise_each.ensures.counted j
          ∙ omega (arith, c.loop-k.invariant.1 j, below_more (uses_at c.args.lists.now) c.loop-k.k _ j listed, ap (λ l. times_among l j) c.deref.ensures.value)),
      (λ j.
          omega (arith, c.raise_each.ensures.counted j, c.loop-k.invariant.2 j, times_few c.deref.result.now j, c.in-Some.used.small, c.in-Some.used.ok, ap length c.deref.ensures.value)),
    )
