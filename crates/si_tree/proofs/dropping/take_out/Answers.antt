use Rattle.std.proofs.Common.{◌≡◌, ◌≢◌, None, Some, sym, ◌∙◌, ap, subst}
use Rattle.std.specs.Prelude.{is_some}
use Rattle.slab.specs.Slab.{get, Updates, with_value}
use Rattle.slab.proofs.SlabLemmas.{Updates-with_value}
use Rattle.si_tree.specs.KeptNodes.{IsBelow}
use Rattle.si_tree.proofs.VacantLaws.{parent_at, above_child, taken_out}
use Rattle.si_tree.proofs.dropping.take_out.Goals as goal

pub head_below-head-requires : goal.head_below-head-requires
head_below-head-requires c =
    let s0 = c.args.nodes.now in
    subst (IsBelow s0 c.args.leaf)
    (parent_at s0 c.args.leaf c.in-Some.parent c.index.result.now c.requires (subst (λ k. get s0 k ≡ Some c.index.result.now) c.leaf.view_is c.index.ensures) (sym c.parent.ensures ∙ c.in-Some.is))
    c.requires.child

pub drop_child-requires : goal.drop_child-requires
drop_child-requires c =
    let s0 = c.args.nodes.now in
    let s1 = c.vacate.new.nodes in
    let above = c.index_mut-above.result.now in
    let parent = c.in-Some.parent in
    let apart = subst (λ k. k ≢ c.args.leaf) (parent_at s0 c.args.leaf parent c.index.result.now c.requires (subst (λ k. get s0 k ≡ Some c.index.result.now) c.leaf.view_is c.index.ensures) (sym c.parent.ensures ∙ c.in-Some.is)) c.requires.apart in (
      c.args.leaf,
      above_child s0 s1 c.args.leaf parent above c.head_below-head.result apart
          (subst (λ k. Updates s0 s1 k None) c.leaf-2.view_is c.vacate.ensures)
          (subst (λ k. get s1 k ≡ Some above) c.parent-2.view_is c.index_mut-above.ensures.value)
          c.head_below-head.ensures,
    )

pub returns : goal.returns
returns c =
    let s0 = c.args.nodes.now in
    let s1 = c.vacate.new.nodes in
    let at = c.parent-2.inside.key in
    let s2 = with_value s1 at c.drop_child.new.self in
    let got = c.index_mut-above.ensures.value in
    taken_out s0 s1 s2 c.args.leaf c.in-Some.parent c.index.result.now c.index_mut-above.result.now c.drop_child.new.self c.requires
    (subst (λ k. get s0 k ≡ Some c.index.result.now) c.leaf.view_is c.index.ensures)
    (sym c.parent.ensures ∙ c.in-Some.is)
    (subst (λ k. Updates s0 s1 k None) c.leaf-2.view_is c.vacate.ensures)
    (subst (λ k. get s1 k ≡ Some c.index_mut-above.result.now) c.parent-2.view_is got)
    (subst (λ k. Updates s1 s2 k (Some c.drop_child.new.self)) c.parent-2.view_is (Updates-with_value s1 at c.drop_child.new.self (ap is_some got)))
    c.head_below-head.result c.head_below-head.ensures c.drop_child.ensures
