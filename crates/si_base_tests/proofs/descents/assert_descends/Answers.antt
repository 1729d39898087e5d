use Rattle.std.proofs.Common.{◌≡◌, Some, sym, ◌∙◌, subst}
use Rattle.si_defs.specs.declared.Relation.TheVariants.{Instances}
use Rattle.si_tree.specs.Reading.{AtNode}
use Rattle.si_descend.specs.Descending.{MayDescend}
use Rattle.si_base_tests.proofs.Nodes.{child_descends}
use Rattle.si_base_tests.proofs.descents.assert_descends.Goals as goal

pub assert_found-requires : goal.assert_found-requires
assert_found-requires g c = subst (λ k. MayDescend c.args.tree.now k Instances c.args.query.now c.args.slots.now c.args.trail.now) (sym c.root-root.ensures.root) c.requires

pub assert_found-requires-2 : goal.assert_found-requires-2
assert_found-requires-2 g c =
    child_descends c.args.tree.now c.child-shared.result Instances c.args.query.now c.args.slots.now c.assert_found.new.trail c.root-root.ensures.legal c.child-shared.ensures.node
    (subst (λ k. AtNode c.args.tree.now c.child-shared.result (λ n. n.parent ≡ Some k)) c.root-root.ensures.root c.child-shared.ensures.parent)
    (subst (MayDescend c.args.tree.now c.args.tree.now.root Instances c.args.query.now c.args.slots.now) (sym c.in_ok-assert_found.ensures.same) c.requires)

pub assert_found-requires-3 : goal.assert_found-requires-3
assert_found-requires-3 g c =
    child_descends c.args.tree.now c.child-other.result Instances c.args.query.now c.args.slots.now c.assert_found-2.new.trail c.root-root.ensures.legal c.child-other.ensures.node
    (subst (λ k. AtNode c.args.tree.now c.child-other.result (λ n. n.parent ≡ Some k)) c.root-root.ensures.root c.child-other.ensures.parent)
    (subst (MayDescend c.args.tree.now c.args.tree.now.root Instances c.args.query.now c.args.slots.now) (sym (c.in_ok-assert_found-2.ensures.same ∙ c.in_ok-assert_found.ensures.same)) c.requires)

pub assert_found_lent-requires : goal.assert_found_lent-requires
assert_found_lent-requires g c =
    subst (λ k. MayDescend c.args.tree.now k Instances c.args.query.now c.args.slots.now c.assert_found-3.new.trail) (sym c.root-root.ensures.root)
    (subst (MayDescend c.args.tree.now c.args.tree.now.root Instances c.args.query.now c.args.slots.now) (sym (c.in_ok-assert_found-3.ensures.same ∙ c.in_ok-assert_found-2.ensures.same ∙ c.in_ok-assert_found.ensures.same)) c.requires)
