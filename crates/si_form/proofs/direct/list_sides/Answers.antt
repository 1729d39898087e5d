use Rattle.std.proofs.Common.{arith, subst}
use Rattle.si_form.specs.Unifying.{HasRightSide}
use Rattle.si_form.proofs.AscendingLaws.{below_begins, below_skips, below_more, below_ends}
use Rattle.si_form.proofs.DirectLaws.{are_flat}
use Rattle.si_form.proofs.direct.list_sides.Goals as goal

pub loop-slot-init : goal.loop-slot-init
loop-slot-init c = below_begins c.args.slots.now c.args.trail.now.pairs c.new-solution.result c.new-solution.ensures

pub loop-slot-preserved-in_default : goal.loop-slot-preserved-in_default
loop-slot-preserved-in_default c =
    below_skips c.args.slots.now c.args.trail.now.pairs c.loop-slot.slot c.loop-slot.solution c.loop-slot.invariant
    (subst (HasRightSide c.args.slots.now c.args.trail.now.pairs c.loop-slot.slot) c.in_default.is c.in_ok-side.ensures)

pub loop-slot-preserved : goal.loop-slot-preserved
loop-slot-preserved c =
    below_more c.args.slots.now c.args.trail.now.pairs c.loop-slot.slot c.loop-slot.solution c.loop-slot.invariant c.in-Some.side c.binding.result c.push.new.self
    (subst (HasRightSide c.args.slots.now c.args.trail.now.pairs c.loop-slot.slot) c.in-Some.is c.in_ok-side.ensures)
    c.binding.ensures.left c.binding.ensures.right c.in_ok-push.ensures.ok

pub returns : goal.returns
returns c =
    below_ends c.args.slots.now c.args.trail.now.pairs c.loop-slot.slot c.loop-slot.solution
    (omega (arith, c.loop-slot-test.false, c.loop-slot.auto.slot-end, c.slots-slot-end.ensures.number, c.requires.room))
    (are_flat c.args.slots.now c.args.trail.now.pairs c.requires.can.bindings c.requires.can.direct)
    c.loop-slot.invariant
