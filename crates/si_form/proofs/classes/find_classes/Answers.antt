use Rattle.std.proofs.Common.{length, sym, subst, arith}
use Rattle.std.proofs.lemmas.List.{nil_from_length}
use Rattle.si_unify.specs.Solving.{IsBinding}
use Rattle.si_unify.proofs.Places.{value_holds}
use Rattle.si_form.specs.Ordering.{uses_at, HasNoCircle, AreOrdered}
use Rattle.si_form.specs.Classes.{HasClass}
use Rattle.si_form.proofs.UsesLaws.{no_circle}
use Rattle.si_form.proofs.ClassLaws.{classing_begins, left_bound, classing_more, classing_ends, slot_inside}
use Rattle.si_form.proofs.classes.find_classes.Goals as goal

pub order-requires : goal.order-requires
order-requires c =
    subst (λ l. HasNoCircle (uses_at l) (length l)) (sym c.deref.ensures.value)
    (no_circle c.args.slots.now c.args.trail.now.pairs c.in_ok-lists.lists.items c.in_ok-lists.ensures.long c.in_ok-lists.ensures.lists c.requires.bindings c.requires.triangular)

pub loop-slot-init : goal.loop-slot-init
loop-slot-init c =
    classing_begins c.args.slots.now c.args.trail.now.pairs c.in_ok-lists.lists.items c.in_ok-lists.ensures.long c.in_ok-lists.ensures.lists c.requires.bindings
    _ _ c.in_ok-left.left.items (subst (λ l. AreOrdered (uses_at l) c.in_ok-left.left.items) c.deref.ensures.value c.in_ok-left.ensures) c.in_ok-nodes.ensures

pub unreachable-requires : goal.unreachable-requires
unreachable-requires c =
    left_bound c.args.slots.now c.args.trail.now.pairs c.in_ok-lists.lists.items c.in_ok-lists.ensures.long c.in_ok-lists.ensures.lists c.requires.bindings
    _ _ _ _ c.in-Some.slot c.in-Some.ensures.items c.loop-slot.invariant (sym c.in_default-get.ensures)

pub class_of-requires-clause-whole : goal.class_of-requires-clause-whole
class_of-requires-clause-whole c = (value_holds (IsBinding c.args.slots.now) c.args.trail.now.pairs c.in-Some.slot c.in-Some-get.value.now c.requires.bindings (sym c.in-Some-get.ensures)).whole

pub class_of-requires-clause-range : goal.class_of-requires-clause-range
class_of-requires-clause-range c = (value_holds (IsBinding c.args.slots.now) c.args.trail.now.pairs c.in-Some.slot c.in-Some-get.value.now c.requires.bindings (sym c.in-Some-get.ensures)).in_range

pub change-requires : goal.change-requires
change-requires c =
    let inside =
    slot_inside c.args.slots.now c.args.trail.now.pairs c.in_ok-lists.lists.items c.in_ok-lists.ensures.long c.in_ok-lists.ensures.lists c.requires.bindings
    _ _ _ _ c.in-Some.slot c.in-Some.ensures.items c.loop-slot.invariant in
    omega (arith, inside, c.loop-slot.invariant.long)

pub loop-slot-preserved : goal.loop-slot-preserved
loop-slot-preserved c =
    classing_more c.args.slots.now c.args.trail.now.pairs c.in_ok-lists.lists.items c.in_ok-lists.ensures.long c.in_ok-lists.ensures.lists c.requires.bindings
    _ c.loop-slot.of_slots.items _ _ c.in-Some.slot c.in-Some.ensures.items c.loop-slot.invariant _ _ c.in_ok-number.number c.in-Some-get.value.now (sym c.in-Some-get.ensures)
    (subst (λ l. HasClass c.loop-slot.nodes.keys c.class_of.new.nodes.keys c.args.slots.now l c.in-Some-get.value.now.now c.in_ok-number.number) c.deref-in-Some.ensures.value c.in_ok-number.ensures) c.change.ensures

pub returns : goal.returns
returns c =
    classing_ends c.args.slots.now c.args.trail.now.pairs c.in_ok-lists.lists.items c.in_ok-lists.ensures.long c.in_ok-lists.ensures.lists c.requires.bindings _ _ _ (nil_from_length c.loop-slot.left.items (omega (arith, c.in_default.ensures.cases.0, c.loop-slot.left.ok))) c.loop-slot.invariant
