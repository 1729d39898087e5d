use Rattle.std.proofs.Common.{◌≡◌, length, subst, arith}
use Rattle.std.proofs.lemmas.List.{drop_all}
use Rattle.si_form.specs.Ordering.{uses_at, IsPartlyOrdered}
use Rattle.si_form.proofs.OrderingLaws.{used_now, passes_over, sets_free, listed_at, unlisted_at, not_listed, left_now}
use Rattle.si_form.proofs.order.release.Goals as goal

pub lower-requires-clause-some : goal.lower-requires-clause-some
lower-requires-clause-some c =
    used_now (uses_at c.args.lists.now) (length c.args.lists.now) c.loop-number.counts.items c.loop-number.counts.items c.loop-number.free.keys c.requires.0 _ _
    (left_now (uses_at c.args.lists.now) _ _ _ _ c.args.used.now c.loop-number.number-index c.loop-number-test.true (c.loop-number.invariant c.requires.0 c.requires.1))

pub loop-number-preserved-then-lower-gt0 : goal.loop-number-preserved-then-lower-gt0
loop-number-preserved-then-lower-gt0 c = λ order h.
    passes_over (uses_at c.args.lists.now) (length c.args.lists.now) c.loop-number.counts.items c.lower.new.counts.items c.loop-number.free.keys order _ _ c.lower.result
    (left_now (uses_at c.args.lists.now) _ _ _ _ c.args.used.now c.loop-number.number-index c.loop-number-test.true (c.loop-number.invariant order h))
    c.lower.ensures.counts c.lower.ensures.less
    (λ e l. omega (arith, e, c.if-lower-gt0.true))

pub loop-number-preserved-in_default : goal.loop-number-preserved-in_default
loop-number-preserved-in_default c = λ order h.
    let now = left_now (uses_at c.args.lists.now) _ _ _ _ c.args.used.now c.loop-number.number-index c.loop-number-test.true (c.loop-number.invariant order h) in
    passes_over (uses_at c.args.lists.now) (length c.args.lists.now) c.loop-number.counts.items c.lower.new.counts.items c.loop-number.free.keys order _ _ c.lower.result
    now c.lower.ensures.counts c.lower.ensures.less
    (λ e l. not_listed (uses_at c.args.lists.now) _ (unlisted_at c.args.lists.now _ c.index-lists-number.result now.left_inside.0 c.index-lists-number.is c.in_default.is) l)

pub loop-number-preserved : goal.loop-number-preserved
loop-number-preserved c = λ order h.
    let now = left_now (uses_at c.args.lists.now) _ _ _ _ c.args.used.now c.loop-number.number-index c.loop-number-test.true (c.loop-number.invariant order h) in
    let none : c.lower.result ≡ 0 = omega (arith, c.if-lower-gt0.false) in
    sets_free (uses_at c.args.lists.now) (length c.args.lists.now) c.loop-number.counts.items c.lower.new.counts.items c.loop-number.free.keys order _ _ c.lower.result
    now c.lower.ensures.counts c.lower.ensures.less _ none
    (_, listed_at c.args.lists.now _ _ _ now.left_inside.0 c.index-lists-number.is c.in-Some.is)
    c.in_ok-insert.ensures.keys

pub returns : goal.returns
returns c = λ order h.
    subst (IsPartlyOrdered (uses_at c.args.lists.now) (length c.args.lists.now) c.loop-number.counts.items c.loop-number.free.keys order)
    (drop_all c.loop-number.number-index c.args.used.now (omega (arith, c.loop-number-test.false)))
    (c.loop-number.invariant order h)
