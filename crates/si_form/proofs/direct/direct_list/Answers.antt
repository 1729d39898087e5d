use Rattle.si_form.proofs.RenamingLaws.{can_be_read}
use Rattle.si_form.proofs.direct.direct_list.Goals as goal

pub list_values-requires-clause-can : goal.list_values-requires-clause-can
list_values-requires-clause-can c =
    can_be_read c.args.slots.now c.args.trail.now.pairs c.requires.free c.requires.bindings c.mark-count.ensures.distinct c.requires.triangular (c.are_direct.ensures.0 c.if-not-are_direct.false)

pub list_sides-requires-clause-can : goal.list_sides-requires-clause-can
list_sides-requires-clause-can c =
    can_be_read c.args.slots.now c.args.trail.now.pairs c.requires.free c.requires.bindings c.mark-count.ensures.distinct c.requires.triangular (c.are_direct.ensures.0 c.if-not-are_direct.false)
