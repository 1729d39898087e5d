use Rattle.std.proofs.Common.{◌≡◌, None, Some, slice_get, refl, sym, ◌∙◌, ap, subst}
use Rattle.si_tree.specs.Forks.{fork_heads}
use Rattle.si_tree.specs.KeptHeads.{heads_in}
use Rattle.si_tree.specs.KeptNodes.{heads_of, HasChildBy}
use Rattle.si_tree.specs.Nodes.{Fork, Inner, content_in}
use Rattle.si_tree.specs.contracts.node.TreeNode.{the_view}
use Rattle.si_tree.proofs.ChildPlaces.{head_among}
use Rattle.si_tree.proofs.NodeSteps.{seen, with_content, within_branches, within_forked, inner_relinks, fork_relinks}
use Rattle.si_tree.proofs.node.TreeNode.relink.Goals.{in-Root, in-Fork, in-Inner}
use Rattle.si_tree.proofs.node.TreeNode.relink.Goals as goal

pub unreachable-requires : goal.unreachable-requires
unreachable-requires c =
    let has = subst (λ n. HasChildBy n c.args.head c.requires.0) (sym c.self.view_is) c.requires.1 in
    c.in_default.ensures.none (head_among (the_view c.self.inside) has.split _ has.children has.content refl c.args.head c.requires.0 has)

pub relink-requires : goal.relink-requires
relink-requires c =
    let heads = ap (λ p. heads_of (content_in p)) c.in-Root.is ∙ ap (λ k. heads_in k.heads) (sym c.deref_mut.ensures.value) in
    within_branches c.args.self.now None c.self.inside.bindings c.deref_mut.result.now (sym c.self.view_is ∙ ap (seen c.self.inside.bindings) c.in-Root.is ∙ ap (λ k. with_content None c.self.inside.bindings (Inner k)) (sym c.deref_mut.ensures.value))
    c.args.head c.requires.0 c.requires.1 c.in-Some.at (subst (λ hs. slice_get hs c.in-Some.at ≡ Some c.args.head) heads c.in-Some.ensures.some)

pub relink-requires-in-Fork : goal.relink-requires-in-Fork
relink-requires-in-Fork c =
    let heads = ap (λ p. heads_of (content_in p)) c.in-Fork.is ∙ ap fork_heads (sym c.deref_mut-in-Fork.ensures.value) in
    within_forked c.args.self.now (Some c.in-Fork.field-0) c.self.inside.bindings c.deref_mut-in-Fork.result.now (sym c.self.view_is ∙ ap (seen c.self.inside.bindings) c.in-Fork.is ∙ ap (λ k. with_content (Some c.in-Fork.field-0) c.self.inside.bindings (Fork k)) (sym c.deref_mut-in-Fork.ensures.value))
    c.args.head c.requires.0 c.requires.1 c.in-Some.at (subst (λ hs. slice_get hs c.in-Some.at ≡ Some c.args.head) heads c.in-Some.ensures.some)

pub relink-requires-in-Inner : goal.relink-requires-in-Inner
relink-requires-in-Inner c =
    let heads = ap (λ p. heads_of (content_in p)) c.in-Inner.is ∙ ap (λ k. heads_in k.heads) (sym c.deref_mut-in-Inner.ensures.value) in
    within_branches c.args.self.now (Some c.in-Inner.field-0) c.self.inside.bindings c.deref_mut-in-Inner.result.now (sym c.self.view_is ∙ ap (seen c.self.inside.bindings) c.in-Inner.is ∙ ap (λ k. with_content (Some c.in-Inner.field-0) c.self.inside.bindings (Inner k)) (sym c.deref_mut-in-Inner.ensures.value))
    c.args.head c.requires.0 c.requires.1 c.in-Some.at (subst (λ hs. slice_get hs c.in-Some.at ≡ Some c.args.head) heads c.in-Some.ensures.some)

pub returns : goal.returns
returns c child has =
    elim c.match-self.branch [
      | in-Root w ↦
          let heads = ap (λ p. heads_of (content_in p)) w.in-Root.is ∙ ap (λ k. heads_in k.heads) (sym w.deref_mut.ensures.value) in
          inner_relinks c.args.self.now (the_view c.match-self.self-inside) None c.self.inside.bindings w.deref_mut.result.now w.relink.new.self
          (sym c.self.view_is ∙ ap (seen c.self.inside.bindings) w.in-Root.is ∙ ap (λ k. with_content None c.self.inside.bindings (Inner k)) (sym w.deref_mut.ensures.value))
          (ap the_view w.self-inside-is)
          w.relink.ensures.split c.args.head c.in-Some.at child c.args.other has (subst (λ hs. slice_get hs c.in-Some.at ≡ Some c.args.head) heads c.in-Some.ensures.some) w.relink.ensures.heads w.relink.ensures.children
      | in-Fork w ↦
          let heads = ap (λ p. heads_of (content_in p)) w.in-Fork.is ∙ ap fork_heads (sym w.deref_mut-in-Fork.ensures.value) in
          fork_relinks c.args.self.now (the_view c.match-self.self-inside) (Some w.in-Fork.field-0) c.self.inside.bindings w.deref_mut-in-Fork.result.now w.relink-in-Fork.new.self
          (sym c.self.view_is ∙ ap (seen c.self.inside.bindings) w.in-Fork.is ∙ ap (λ k. with_content (Some w.in-Fork.field-0) c.self.inside.bindings (Fork k)) (sym w.deref_mut-in-Fork.ensures.value))
          (ap the_view w.self-inside-is)
          c.args.head c.in-Some.at child c.args.other has (subst (λ hs. slice_get hs c.in-Some.at ≡ Some c.args.head) heads c.in-Some.ensures.some) w.relink-in-Fork.ensures
      | in-Inner w ↦
          let heads = ap (λ p. heads_of (content_in p)) w.in-Inner.is ∙ ap (λ k. heads_in k.heads) (sym w.deref_mut-in-Inner.ensures.value) in
          inner_relinks c.args.self.now (the_view c.match-self.self-inside) (Some w.in-Inner.field-0) c.self.inside.bindings w.deref_mut-in-Inner.result.now w.relink-in-Inner.new.self
          (sym c.self.view_is ∙ ap (seen c.self.inside.bindings) w.in-Inner.is ∙ ap (λ k. with_content (Some w.in-Inner.field-0) c.self.inside.bindings (Inner k)) (sym w.deref_mut-in-Inner.ensures.value))
          (ap the_view w.self-inside-is)
          w.relink-in-Inner.ensures.split c.args.head c.in-Some.at child c.args.other has (subst (λ hs. slice_get hs c.in-Some.at ≡ Some c.args.head) heads c.in-Some.ensures.some) w.relink-in-Inner.ensures.heads w.relink-in-Inner.ensures.children
    ]
