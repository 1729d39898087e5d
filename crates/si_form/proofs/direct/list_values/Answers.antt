use Rattle.std.proofs.Common.{sym, ◌∙◌, arith}
use Rattle.si_form.proofs.AscendingLaws.{below_begins, below_skips, below_more, below_ends}
use Rattle.si_form.proofs.DirectLaws.{binding_at, are_flat}
use Rattle.si_form.proofs.RenamingLaws.{value_side, no_side}
use Rattle.si_form.proofs.direct.list_values.Goals as goal

pub loop-slot-init : goal.loop-slot-init
loop-slot-init c = below_begins c.args.slots.now c.args.trail.now.pairs c.new-solution.result c.new-solution.ensures

pub loop-slot-preserved-in_default : goal.loop-slot-preserved-in_default
loop-slot-preserved-in_default c =
    below_skips c.args.slots.now c.args.trail.now.pairs c.loop-slot.slot c.loop-slot.solution c.loop-slot.invariant
    (
    no_side c.args.slots.now c.args.trail.now.pairs c.requires.can c.requires.applied c.loop-slot.slot
    (omega (arith, c.loop-slot-test.true, c.slots-slot-end.ensures.number, c.requires.room)) (sym c.in_default.ensures)
    )

pub from_cells-requires : goal.from_cells-requires
from_cells-requires c = (binding_at c.args.slots.now c.args.trail.now.pairs c.requires.can.bindings c.loop-slot.slot c.in-Some.value.now (sym c.in-Some.ensures)).whole

pub loop-slot-preserved : goal.loop-slot-preserved
loop-slot-preserved c =
    below_more c.args.slots.now c.args.trail.now.pairs c.loop-slot.slot c.loop-slot.solution c.loop-slot.invariant c.in-Some.value.now.now c.binding.result c.push.new.self
    (value_side c.args.slots.now c.args.trail.now.pairs c.requires.can c.requires.applied c.loop-slot.slot c.in-Some.value.now (sym c.in-Some.ensures))
    c.binding.ensures.left (c.binding.ensures.right ∙ c.in_ok-side.ensures) c.in_ok-push.ensures.ok

pub returns : goal.returns
returns c =
    below_ends c.args.slots.now c.args.trail.now.pairs c.loop-slot.slot c.loop-slot.solution
    (omega (arith, c.loop-slot-test.false, c.loop-slot.auto.slot-end, c.slots-slot-end.ensures.number, c.requires.room))
    (are_flat c.args.slots.now c.args.trail.now.pairs c.requires.can.bindings c.requires.can.direct)
    c.loop-slot.invariant
