use Rattle.std.proofs.Common.{length, sym, ◌∙◌, ap, subst}
use Rattle.std.proofs.lemmas.Result.{IfOk-weaker}
use Rattle.si_form.specs.Ordering.{uses_at, HasNoCircle, AreOrdered}
use Rattle.si_form.specs.Unifying.{AreUses, AreListed, ListsBindings}
use Rattle.si_form.proofs.TrailLaws.{has_general}
use Rattle.si_form.proofs.UnifierThere.{no_circle, all_listed, is_whole_list}
use Rattle.si_form.proofs.unifying.whole_list.Goals as goal

pub order-requires : goal.order-requires
order-requires c =
    let some = has_general c.args.slots.now c.requires.free.query c.requires.free.entry c.args.trail.now.pairs c.requires.bindings c.right_sides.ensures.distinct c.requires.triangular in
    subst (λ l. HasNoCircle (uses_at l) (length l)) (sym c.deref-2.ensures.value)
    (no_circle c.args.slots.now some.0 c.in_ok-rights.rights.items c.in_ok-lists.lists.items c.in_ok-rights.ensures.long
    (c.in_ok-lists.ensures.long ∙ ap (λ l. length l) c.deref.ensures.value)
    (subst (λ l. AreUses c.args.slots.now l c.in_ok-lists.lists.items) c.deref.ensures.value c.in_ok-lists.ensures.uses)
    (c.in_ok-rights.ensures.rights some.0 some.1) some.1.stays)

pub list-requires-clause-listed : goal.list-requires-clause-listed
list-requires-clause-listed c =
    let some = has_general c.args.slots.now c.requires.free.query c.requires.free.entry c.args.trail.now.pairs c.requires.bindings c.right_sides.ensures.distinct c.requires.triangular in
    subst (λ l. AreListed c.args.slots.now l c.deref-4.result.now) (sym c.deref-3.ensures.value)
    (subst (AreListed c.args.slots.now c.in_ok-rights.rights.items) (sym c.deref-4.ensures.value)
    (all_listed c.args.slots.now c.in_ok-rights.rights.items c.in_ok-lists.lists.items c.in_ok-rights.ensures.long
    (c.in_ok-lists.ensures.long ∙ ap (λ l. length l) c.deref.ensures.value)
    (subst (λ l. AreUses c.args.slots.now l c.in_ok-lists.lists.items) c.deref.ensures.value c.in_ok-lists.ensures.uses)
    some.0 (c.in_ok-rights.ensures.rights some.0 some.1) c.in_ok-order.order.items
    (subst (λ l. AreOrdered (uses_at l) c.in_ok-order.order.items) c.deref-2.ensures.value c.in_ok-order.ensures)))

pub returns-clause-all : goal.returns-clause-all
returns-clause-all c =
    IfOk-weaker c.list.result _ _
    (λ bindings h f general.
    is_whole_list c.args.slots.now c.in_ok-rights.rights.items c.in_ok-lists.lists.items c.in_ok-rights.ensures.long
    (c.in_ok-lists.ensures.long ∙ ap (λ l. length l) c.deref.ensures.value)
    (subst (λ l. AreUses c.args.slots.now l c.in_ok-lists.lists.items) c.deref.ensures.value c.in_ok-lists.ensures.uses)
    f (c.in_ok-rights.ensures.rights f general) general.stays c.in_ok-order.order.items bindings
    (subst (λ l. AreOrdered (uses_at l) c.in_ok-order.order.items) c.deref-2.ensures.value c.in_ok-order.ensures)
    (subst (λ l. ListsBindings c.args.slots.now l c.in_ok-order.order.items bindings) c.deref-3.ensures.value
    (subst (λ l. ListsBindings c.args.slots.now c.deref-3.result.now l bindings) c.deref-4.ensures.value h)))
    c.list.ensures
