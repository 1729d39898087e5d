use Rattle.std.proofs.Common.{sym, ◌∙◌, arith}
use Rattle.si_unify.specs.Solving.{IsBinding}
use Rattle.si_unify.proofs.Places.{value_holds}
use Rattle.si_form.proofs.DownLaws.{down_begins, down_unbound, down_ends, value_inside, down_more, down_applies}
use Rattle.si_form.proofs.unifying.application_size.Goals as goal

pub loop-init : goal.loop-init
loop-init c = down_begins c.args.slots.now c.args.trail.now.pairs c.args.slot c.requires.triangular c.requires.inside

pub returns-in_default : goal.returns-in_default
returns-in_default c =
    down_unbound c.args.slots.now c.args.trail.now.pairs c.requires.bindings c.args.slot c.loop.at c.loop.counter c.loop.invariant (sym c.in_default.ensures)

pub bounds-value-0 : goal.bounds-value-0
bounds-value-0 c =
    value_inside c.args.slots.now c.args.trail.now.pairs c.requires.bindings c.args.slot c.loop.at c.loop.counter c.loop.invariant c.in-Some.value.now (sym c.in-Some.ensures)

pub size-requires : goal.size-requires
size-requires c = (value_holds (IsBinding c.args.slots.now) c.args.trail.now.pairs c.loop.at c.in-Some.value.now c.requires.bindings (sym c.in-Some.ensures)).whole

pub returns-in_default-slot_of : goal.returns-in_default-slot_of
returns-in_default-slot_of c =
    down_applies c.args.slots.now c.args.trail.now.pairs c.requires.bindings c.args.slot c.loop.at c.loop.counter c.loop.invariant c.in-Some.value.now (sym c.in-Some.ensures)
    c.size.result (sym c.in_default-slot_of.is ∙ c.slot_of.ensures) c.size.ensures (omega (arith, c.size.type_inv))

pub loop-preserved : goal.loop-preserved
loop-preserved c =
    down_more c.args.slots.now c.args.trail.now.pairs c.requires.bindings c.args.slot c.loop.at c.loop.counter c.loop.invariant c.in-Some.value.now (sym c.in-Some.ensures)
    c.in-Some-slot_of.next (sym c.in-Some-slot_of.is ∙ c.slot_of.ensures)

pub returns : goal.returns
returns c = down_ends c.args.slots.now c.args.trail.now.pairs c.requires.bindings c.args.slot c.loop.at c.loop.counter c.loop.invariant (omega (arith, c.loop-test.false, c.mark-end.ensures.number))
