use Rattle.std.proofs.Common.{length, ap, sym, ◌∙◌, subst, arith}
use Rattle.std.proofs.lemmas.Result.{IfOk-weaker}
use Rattle.si_descend.proofs.Retrieving.{has_room, bound_first}
use Rattle.si_unify.specs.Solving.{AllowsSolving}
use Rattle.si_descend.proofs.Beginning.{may_begin}
use Rattle.si_descend.proofs.CountLaws.{counted_answers}
use Rattle.si_descend.proofs.Starting.{asked_above}
use Rattle.si_descend.proofs.descent.count.Goals as goal

pub bind-requires-clause-in_range : goal.bind-requires-clause-in_range
bind-requires-clause-in_range c =
    omega (arith, ap (λ t. t.slots) c.in_ok-trail.ensures, c.count.ensures.count, c.indicator_slot.ensures, c.slots_for-slots.ensures.inds, c.root-root.ensures.legal.zero_known)

pub new-search-requires-clause-room : goal.new-search-requires-clause-room
new-search-requires-clause-room c =
    has_room c.args.tree.now c.slots_for-slots.result c.args.query.now c.root-root.ensures.legal (c.slots_for-slots.ensures.query ∙ ap length c.cells-cells.ensures.cells) c.slots_for-slots.ensures.entry c.slots_for-slots.ensures.inds c.requires

pub count_below-counted-requires-clause-solving : goal.count_below-counted-requires-clause-solving
count_below-counted-requires-clause-solving c =
    let begun = may_begin c.args.tree.now c.root-root.result c.args.relation c.args.query.now c.slots_for-slots.result c.cells-cells.result c.bind.new.self c.root-root.ensures.legal c.root-root.ensures.root c.requires
    (c.slots_for-slots.ensures.query ∙ ap length c.cells-cells.ensures.cells) c.slots_for-slots.ensures.entry c.slots_for-slots.ensures.inds c.slots_for-slots.ensures.freezes c.cells-cells.ensures.cells
    (bound_first c.slots_for-slots.result c.bind.new.self.pairs c.in_ok-trail.trail.pairs c.indicator_slot.result c.cells-cells.result c.indicator_slot.ensures c.bind.ensures.pairs (ap (λ t. t.pairs) c.in_ok-trail.ensures))
    (c.bind.ensures.slots ∙ ap (λ t. t.slots) c.in_ok-trail.ensures ∙ c.count.ensures.count) in
    subst (λ s. AllowsSolving s c.bind.new.self.pairs c.bind.new.self.slots) (sym c.new-search.ensures.slots) begun.solving

pub count_below-counted-requires-clause-above : goal.count_below-counted-requires-clause-above
count_below-counted-requires-clause-above c =
    let begun = may_begin c.args.tree.now c.root-root.result c.args.relation c.args.query.now c.slots_for-slots.result c.cells-cells.result c.bind.new.self c.root-root.ensures.legal c.root-root.ensures.root c.requires
    (c.slots_for-slots.ensures.query ∙ ap length c.cells-cells.ensures.cells) c.slots_for-slots.ensures.entry c.slots_for-slots.ensures.inds c.slots_for-slots.ensures.freezes c.cells-cells.ensures.cells
    (bound_first c.slots_for-slots.result c.bind.new.self.pairs c.in_ok-trail.trail.pairs c.indicator_slot.result c.cells-cells.result c.indicator_slot.ensures c.bind.ensures.pairs (ap (λ t. t.pairs) c.in_ok-trail.ensures))
    (c.bind.ensures.slots ∙ ap (λ t. t.slots) c.in_ok-trail.ensures ∙ c.count.ensures.count) in
    asked_above c.new-search.result c.args.tree.now c.slots_for-slots.result c.args.query.now c.bind.new.self.pairs c.root-root.result
    (ap (λ b. b.now) c.new-search.ensures.tree) (ap (λ b. b.now) c.new-search.ensures.query) c.new-search.ensures.slots begun.above

pub returns : goal.returns
returns c =
    IfOk-weaker c.count_below-counted.result _ _ (λ n h. counted_answers c.new-search.result c.args.tree.now c.args.relation c.args.query.now c.root-root.result n c.root-root.ensures.legal (ap (λ b. b.now) c.new-search.ensures.tree) c.new-search.ensures.relation (ap (λ b. b.now) c.new-search.ensures.query) c.root-root.ensures.root h) c.count_below-counted.ensures
