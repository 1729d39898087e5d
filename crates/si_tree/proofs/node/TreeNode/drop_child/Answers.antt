use Rattle.std.proofs.Common.{◌≡◌, None, Some, slice_get, sym, ◌∙◌, ap, subst}
use Rattle.si_defs.specs.Substitutions.{IsAmong}
use Rattle.si_tree.specs.Forks.{fork_heads}
use Rattle.si_tree.specs.Nodes.{Fork, Inner}
use Rattle.si_tree.specs.contracts.node.TreeNode.{the_view}
use Rattle.si_tree.proofs.NodeSteps.{seen, with_content, among_branches, among_forked, within_branches, within_forked, inner_loses, fork_loses}
use Rattle.si_tree.proofs.node.TreeNode.drop_child.Goals.{in-Root, in-Fork+in-Some, in-Inner}
use Rattle.si_tree.proofs.node.TreeNode.drop_child.Goals as goal

pub remove-requires-clause-among : goal.remove-requires-clause-among
remove-requires-clause-among c = among_branches c.args.self.now None c.self.inside.bindings c.deref_mut.result.now (sym c.self.view_is ∙ ap (seen c.self.inside.bindings) c.in-Root.is ∙ ap (λ k. with_content None c.self.inside.bindings (Inner k)) (sym c.deref_mut.ensures.value)) c.args.head c.requires.0 c.requires.1

pub remove-requires-clause-inside : goal.remove-requires-clause-inside
remove-requires-clause-inside c = within_branches c.args.self.now None c.self.inside.bindings c.deref_mut.result.now (sym c.self.view_is ∙ ap (seen c.self.inside.bindings) c.in-Root.is ∙ ap (λ k. with_content None c.self.inside.bindings (Inner k)) (sym c.deref_mut.ensures.value)) c.args.head c.requires.0 c.requires.1

pub unreachable-requires : goal.unreachable-requires
unreachable-requires c =
    let read = c.heads.ensures ∙ ap fork_heads c.deref.ensures in
    c.in_default.ensures.none (subst (λ hs. IsAmong hs c.args.head) (sym read)
    (among_forked c.args.self.now (Some c.in-Fork.field-0) c.self.inside.bindings c.in-Fork.fork.value (sym c.self.view_is ∙ ap (seen c.self.inside.bindings) c.in-Fork.is) c.args.head c.requires.0 c.requires.1))

pub remove-requires-in-Fork : goal.remove-requires-in-Fork
remove-requires-in-Fork c =
    let read = c.heads.ensures ∙ ap fork_heads (c.deref.ensures ∙ sym c.deref_mut-in-Fork.ensures.value) in
    within_forked c.args.self.now (Some c.in-Fork.field-0) c.self.inside.bindings c.deref_mut-in-Fork.result.now (sym c.self.view_is ∙ ap (seen c.self.inside.bindings) c.in-Fork.is ∙ ap (λ k. with_content (Some c.in-Fork.field-0) c.self.inside.bindings (Fork k)) (sym c.deref_mut-in-Fork.ensures.value))
    c.args.head c.requires.0 c.requires.1 c.in-Some.at (subst (λ hs. slice_get hs c.in-Some.at ≡ Some c.args.head) read c.in-Some.ensures.some)

pub remove-requires-in-Inner-clause-among : goal.remove-requires-in-Inner-clause-among
remove-requires-in-Inner-clause-among c = among_branches c.args.self.now (Some c.in-Inner.field-0) c.self.inside.bindings c.deref_mut-in-Inner.result.now (sym c.self.view_is ∙ ap (seen c.self.inside.bindings) c.in-Inner.is ∙ ap (λ k. with_content (Some c.in-Inner.field-0) c.self.inside.bindings (Inner k)) (sym c.deref_mut-in-Inner.ensures.value)) c.args.head c.requires.0 c.requires.1

pub remove-requires-in-Inner-clause-inside : goal.remove-requires-in-Inner-clause-inside
remove-requires-in-Inner-clause-inside c = within_branches c.args.self.now (Some c.in-Inner.field-0) c.self.inside.bindings c.deref_mut-in-Inner.result.now (sym c.self.view_is ∙ ap (seen c.self.inside.bindings) c.in-Inner.is ∙ ap (λ k. with_content (Some c.in-Inner.field-0) c.self.inside.bindings (Inner k)) (sym c.deref_mut-in-Inner.ensures.value)) c.args.head c.requires.0 c.requires.1

pub returns : goal.returns
returns c child has =
    elim c.match-self.branch [
      | in-Root w ↦
          inner_loses c.args.self.now (the_view c.match-self.self-inside) None c.self.inside.bindings w.deref_mut.result.now w.remove.new.self
          (sym c.self.view_is ∙ ap (seen c.self.inside.bindings) w.in-Root.is ∙ ap (λ k. with_content None c.self.inside.bindings (Inner k)) (sym w.deref_mut.ensures.value))
          (ap the_view w.self-inside-is)
          w.remove.ensures.split c.args.head w.remove.result child has w.remove.ensures.place w.remove.ensures.heads w.remove.ensures.children
      | in-Fork+in-Some w ↦
          let read = w.heads.ensures ∙ ap fork_heads (w.deref.ensures ∙ sym w.deref_mut-in-Fork.ensures.value) in
          fork_loses c.args.self.now (the_view c.match-self.self-inside) (Some w.in-Fork.field-0) c.self.inside.bindings w.deref_mut-in-Fork.result.now w.remove-in-Fork.new.self
          (sym c.self.view_is ∙ ap (seen c.self.inside.bindings) w.in-Fork.is ∙ ap (λ k. with_content (Some w.in-Fork.field-0) c.self.inside.bindings (Fork k)) (sym w.deref_mut-in-Fork.ensures.value))
          (ap the_view w.self-inside-is)
          c.args.head w.in-Some.at child has (subst (λ hs. slice_get hs w.in-Some.at ≡ Some c.args.head) read w.in-Some.ensures.some) (w.remove-in-Fork.ensures c.args.head child)
      | in-Inner w ↦
          inner_loses c.args.self.now (the_view c.match-self.self-inside) (Some w.in-Inner.field-0) c.self.inside.bindings w.deref_mut-in-Inner.result.now w.remove-in-Inner.new.self
          (sym c.self.view_is ∙ ap (seen c.self.inside.bindings) w.in-Inner.is ∙ ap (λ k. with_content (Some w.in-Inner.field-0) c.self.inside.bindings (Inner k)) (sym w.deref_mut-in-Inner.ensures.value))
          (ap the_view w.self-inside-is)
          w.remove-in-Inner.ensures.split c.args.head w.remove-in-Inner.result child has w.remove-in-Inner.ensures.place w.remove-in-Inner.ensures.heads w.remove-in-Inner.ensures.children
    ]
