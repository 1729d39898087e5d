use Rattle.std.proofs.Common.{◌<◌, length, ◌∙◌, ap, arith}
use Rattle.std.proofs.lemmas.List.{length-set}
use Rattle.si_defs.proofs.ListLaws.{all_get}
use Rattle.si_form.proofs.OrderingLaws.{raised_more, raised_room}
use Rattle.si_form.proofs.order.raise_each.Goals as goal

pub raise-requires-clause-room : goal.raise-requires-clause-room
raise-requires-clause-room c = raised_room c.args.counts.now.items _ c.args.used.now c.loop-number.number-index _ _ c.loop-number-test.true (c.requires.room _) c.loop-number.invariant.1

pub loop-number-preserved : goal.loop-number-preserved
loop-number-preserved c = (
  ap (λ l. length l) c.raise.ensures ∙ length-set c.loop-number.counts.items _ _ ∙ c.loop-number.invariant.0,
  raised_more c.args.counts.now.items c.loop-number.counts.items _ c.args.used.now c.loop-number.number-index c.loop-number-test.true c.raise.ensures
      (omega (arith, c.loop-number.invariant.0, all_get (λ j. j < length c.args.counts.now.items) c.args.used.now c.loop-number.number-index 0 c.requires.inside c.loop-number-test.true))
      c.loop-number.invariant.1,
)
