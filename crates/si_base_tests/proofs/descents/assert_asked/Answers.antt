use Rattle.std.proofs.Common.{length, refl, ap, ◌∙◌, arith}
use Rattle.si_descend.proofs.Retrieving.{bound_first}
use Rattle.si_descend.proofs.Beginning.{may_begin}
use Rattle.si_defs.specs.declared.Relation.TheVariants.{Instances}
use Rattle.si_base_tests.proofs.descents.assert_asked.Goals as goal

pub bind-requires-clause-in_range : goal.bind-requires-clause-in_range
bind-requires-clause-in_range g c =
    omega (arith, ap (λ t. t.slots) c.in_ok-trail.ensures, c.count.ensures.count, c.indicator_slot.ensures, c.slots_for-slots.ensures.inds, c.root.ensures.legal.zero_known)

pub assert_bound-requires : goal.assert_bound-requires
assert_bound-requires g c =
    may_begin c.args.tree.now c.args.tree.now.root Instances c.args.query.now c.slots_for-slots.result c.cells-cells.result c.bind.new.self c.root.ensures.legal refl c.requires
    (c.slots_for-slots.ensures.query ∙ ap length c.cells-cells.ensures.cells) c.slots_for-slots.ensures.entry c.slots_for-slots.ensures.inds c.slots_for-slots.ensures.freezes c.cells-cells.ensures.cells
    (bound_first c.slots_for-slots.result c.bind.new.self.pairs c.in_ok-trail.trail.pairs c.indicator_slot.result c.cells-cells.result c.indicator_slot.ensures c.bind.ensures.pairs (ap (λ t. t.pairs) c.in_ok-trail.ensures))
    (c.bind.ensures.slots ∙ ap (λ t. t.slots) c.in_ok-trail.ensures ∙ c.count.ensures.count)
