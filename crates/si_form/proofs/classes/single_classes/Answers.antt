use Rattle.std.proofs.Common.{arith}
use Rattle.si_form.proofs.ClassLaws.{singles_more}
use Rattle.si_form.proofs.classes.single_classes.Goals as goal

pub loop-slot-preserved : goal.loop-slot-preserved
loop-slot-preserved c = singles_more c.args.slots.now _ _ _ _ c.loop-slot.slot _ (omega (arith, c.loop-slot-test.true, c.count-slot-end.ensures.count)) c.loop-slot.invariant c.in_ok-number.ensures c.in_ok-push.ensures.items
