use Rattle.std.proofs.Common.{sym, ◌∙◌}
use Rattle.si_form.proofs.DirectLaws.{some_cells, next_inside, next_unbound}
use Rattle.si_form.proofs.direct.side.Goals as goal

pub bounds-value-0 : goal.bounds-value-0
bounds-value-0 c = some_cells c.args.slots.now c.args.trail.now.pairs c.requires.can.bindings c.args.slot c.in-Some.value.now (sym c.in-Some.ensures)

pub variable_side-requires-2-clause-inside : goal.variable_side-requires-2-clause-inside
variable_side-requires-2-clause-inside c =
    next_inside c.args.slots.now c.args.trail.now.pairs c.requires.can.bindings c.requires.can.direct c.args.slot c.in-Some-slot_of.next c.in-Some.value.now (sym c.in-Some.ensures) (sym c.slot_of.ensures ∙ c.in-Some-slot_of.is)

pub variable_side-requires-2-clause-unbound : goal.variable_side-requires-2-clause-unbound
variable_side-requires-2-clause-unbound c =
    next_unbound c.args.slots.now c.args.trail.now.pairs c.requires.can.bindings c.requires.can.direct c.args.slot c.in-Some-slot_of.next c.in-Some.value.now (sym c.in-Some.ensures) (sym c.slot_of.ensures ∙ c.in-Some-slot_of.is)
