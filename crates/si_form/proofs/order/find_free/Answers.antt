use Rattle.std.proofs.Common.{◌≡◌, arith}
use Rattle.std.specs.Prelude.{slice_index_or}
use Rattle.si_form.specs.Ordering.{uses_at}
use Rattle.si_form.proofs.OrderingLaws.{free_more, listed_at}
use Rattle.si_form.proofs.order.find_free.Goals as goal

pub loop-k-preserved : goal.loop-k-preserved
loop-k-preserved c =
    let zero_is : slice_index_or c.args.counts.now c.loop-k.k 0 ≡ 0 = omega (arith, c.if-counts-k-gt0.false) in
    free_more (uses_at c.args.lists.now) c.args.counts.now c.loop-k.free.keys _ c.loop-k.k zero_is
    (c.in-Some.field-0.items, listed_at c.args.lists.now c.loop-k.k _ _ c.loop-k-test.true c.index-lists-k.is c.in-Some.is)
    c.in_ok-insert.ensures.keys
    c.loop-k.invariant
