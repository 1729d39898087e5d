use Rattle.std.proofs.Common.{Some, sym, ◌∙◌, subst}
use Rattle.std.proofs.lemmas.Result.{IfOk-weaker}
use Rattle.si_flat.specs.Cells.{IsWhole}
use Rattle.si_form.specs.Unifying.{HasRightSide}
use Rattle.si_form.proofs.DirectLaws.{binding_at, direct_at, application_right}
use Rattle.si_form.proofs.RenamingLaws.{whole_side}
use Rattle.si_form.proofs.direct.application_side.Goals as goal

pub renamed-requires-clause-range : goal.renamed-requires-clause-range
renamed-requires-clause-range c = (binding_at c.args.slots.now c.args.trail.now.pairs c.requires.can.bindings c.args.slot c.args.value c.requires.bound).in_range

pub renamed-requires-clause-unbound : goal.renamed-requires-clause-unbound
renamed-requires-clause-unbound c = (direct_at c.args.slots.now c.args.trail.now.pairs c.requires.can.bindings c.requires.can.direct c.args.slot c.args.value c.requires.bound).unbound

pub from_cells-requires : goal.from_cells-requires
from_cells-requires c =
    subst IsWhole (sym c.deref.ensures.value)
    (
    whole_side c.args.slots.now c.args.trail.now.pairs c.requires.can c.args.slot c.in_ok-cells.cells.items
    (application_right c.args.slots.now c.args.trail.now.pairs c.requires.can.bindings c.requires.can.direct c.args.slot c.args.value c.in_ok-cells.cells.items c.requires.bound c.requires.applied c.in_ok-cells.ensures)
    )

pub returns : goal.returns
returns c =
    IfOk-weaker c.from_cells.result _ _
    (λ side same.
    subst (λ l. HasRightSide c.args.slots.now c.args.trail.now.pairs c.args.slot (Some l)) (sym (same ∙ c.deref.ensures.value))
    (application_right c.args.slots.now c.args.trail.now.pairs c.requires.can.bindings c.requires.can.direct c.args.slot c.args.value c.in_ok-cells.cells.items c.requires.bound c.requires.applied c.in_ok-cells.ensures))
    c.from_cells.ensures
