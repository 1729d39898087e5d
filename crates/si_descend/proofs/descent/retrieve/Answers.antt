use Rattle.std.proofs.Common.{length, ap, ◌∙◌, subst, arith}
use Rattle.std.proofs.lemmas.Result.{IfOk-weaker}
use Rattle.si_descend.proofs.Retrieving.{bound_first, found_retrieves}
use Rattle.si_descend.specs.Answers.{Finds}
use Rattle.si_descend.proofs.Beginning.{may_begin}
use Rattle.si_descend.proofs.descent.retrieve.Goals as goal

pub bind-requires-clause-in_range : goal.bind-requires-clause-in_range
bind-requires-clause-in_range c =
    omega (arith, ap (λ t. t.slots) c.in_ok-trail.ensures, c.count.ensures.count, c.indicator_slot.ensures, c.slots_for-slots.ensures.inds, c.root-root.ensures.legal.zero_known)

pub descend_over-passed-requires : goal.descend_over-passed-requires
descend_over-passed-requires c =
    may_begin c.args.tree.now c.root-root.result c.args.relation c.args.query.now c.slots_for-slots.result c.cells-cells.result c.bind.new.self c.root-root.ensures.legal c.root-root.ensures.root c.requires
    (c.slots_for-slots.ensures.query ∙ ap length c.cells-cells.ensures.cells) c.slots_for-slots.ensures.entry c.slots_for-slots.ensures.inds c.slots_for-slots.ensures.freezes c.cells-cells.ensures.cells
    (bound_first c.slots_for-slots.result c.bind.new.self.pairs c.in_ok-trail.trail.pairs c.indicator_slot.result c.cells-cells.result c.indicator_slot.ensures c.bind.ensures.pairs (ap (λ t. t.pairs) c.in_ok-trail.ensures))
    (c.bind.ensures.slots ∙ ap (λ t. t.slots) c.in_ok-trail.ensures ∙ c.count.ensures.count)

pub returns-clause-retrieves : goal.returns-clause-retrieves
returns-clause-retrieves c =
    IfOk-weaker c.descend_over-passed.result _ _ (λ n h. found_retrieves c.args.tree.now c.args.relation c.args.query.now c.args.out.now.items c.descend_over-passed.new.out.items n c.root-root.ensures.legal (subst (λ k. Finds c.args.tree.now k c.args.relation c.args.query.now c.args.out.now.items c.descend_over-passed.new.out.items n) c.root-root.ensures.root h)) c.descend_over-passed.ensures.finds
