use Rattle.std.proofs.Common.{get_or, refl, sym, ◌∙◌, ap, subst}
use Rattle.si_flat.specs.Cells.{IsWhole}
use Rattle.si_form.specs.Ordering.{list_of}
use Rattle.si_form.proofs.UnifierThere.{lists_more, listed_at, listed_some, whole_cells, right_at, lists_end}
use Rattle.si_form.proofs.unifying.list.Goals as goal

pub unreachable-requires : goal.unreachable-requires
unreachable-requires c =
    let k = get_or c.args.order.now c.loop-slot.slot-index 0 in
    let inside = listed_at c.args.slots.now c.args.rights.now c.args.order.now c.loop-slot.slot-index k c.loop-slot-test.true refl c.requires.long c.requires.listed in
    listed_some c.args.slots.now c.args.rights.now c.args.order.now c.loop-slot.slot-index k c.loop-slot-test.true refl c.requires.listed inside
    (right_at c.args.slots.now c.args.rights.now c.args.order.now k c.index-rights-slot.result inside c.index-rights-slot.is ∙ ap list_of c.in_default.is)

pub from_cells-requires : goal.from_cells-requires
from_cells-requires c =
    let k = get_or c.args.order.now c.loop-slot.slot-index 0 in
    let inside = listed_at c.args.slots.now c.args.rights.now c.args.order.now c.loop-slot.slot-index k c.loop-slot-test.true refl c.requires.long c.requires.listed in
    subst IsWhole (sym c.deref.ensures.value)
    (whole_cells c.args.slots.now c.args.rights.now c.args.order.now k c.in-Some.cells.items inside
    (right_at c.args.slots.now c.args.rights.now c.args.order.now k c.index-rights-slot.result inside c.index-rights-slot.is ∙ ap list_of c.in-Some.is) c.requires.listed)

pub loop-slot-preserved : goal.loop-slot-preserved
loop-slot-preserved c =
    let k = get_or c.args.order.now c.loop-slot.slot-index 0 in
    let inside = listed_at c.args.slots.now c.args.rights.now c.args.order.now c.loop-slot.slot-index k c.loop-slot-test.true refl c.requires.long c.requires.listed in
    lists_more c.args.slots.now c.args.rights.now c.args.order.now c.loop-slot.slot-index k c.loop-slot.solution c.loop-slot-test.true refl c.loop-slot.invariant
    c.in-Some.cells.items c.binding.result c.push.new.self inside
    (right_at c.args.slots.now c.args.rights.now c.args.order.now k c.index-rights-slot.result inside c.index-rights-slot.is ∙ ap list_of c.in-Some.is)
    c.binding.ensures.left (c.binding.ensures.right ∙ c.in_ok-value.ensures ∙ c.deref.ensures.value) c.in_ok-push.ensures.ok

pub returns : goal.returns
returns c = lists_end c.args.slots.now c.args.rights.now c.args.order.now c.loop-slot.slot-index c.loop-slot.solution c.loop-slot-test.false c.loop-slot.invariant
