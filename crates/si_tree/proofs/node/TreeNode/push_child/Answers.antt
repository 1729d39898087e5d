use Rattle.std.proofs.Common.{None, Some, sym, ◌∙◌, ap}
use Rattle.si_tree.specs.Nodes.{Fork, Inner}
use Rattle.si_tree.specs.contracts.node.TreeNode.{the_view}
use Rattle.si_tree.proofs.NodeSteps.{seen, with_content, inner_gains, fork_gains}
use Rattle.si_tree.proofs.node.TreeNode.push_child.Goals.{in-Root, in-Fork, in-Inner}
use Rattle.si_tree.proofs.node.TreeNode.push_child.Goals as goal

pub returns : goal.returns
returns c =
    let bs = c.self.inside.bindings in
    elim c.match-self.branch [
      | in-Root w ↦
          inner_gains c.args.self.now (the_view c.match-self.self-inside) None bs w.deref_mut.result.now w.push.new.self
          (sym c.self.view_is ∙ ap (seen bs) w.in-Root.is ∙ ap (λ k. with_content None bs (Inner k)) (sym w.deref_mut.ensures.value))
          (ap the_view w.self-inside-is)
          w.push.ensures.split c.args.head c.args.child w.push.ensures.heads w.push.ensures.children
      | in-Fork w ↦
          fork_gains c.args.self.now (the_view c.match-self.self-inside) (Some w.in-Fork.field-0) bs w.deref_mut-in-Fork.result.now w.push-in-Fork.new.self
          (sym c.self.view_is ∙ ap (seen bs) w.in-Fork.is ∙ ap (λ k. with_content (Some w.in-Fork.field-0) bs (Fork k)) (sym w.deref_mut-in-Fork.ensures.value))
          (ap the_view w.self-inside-is)
          c.args.head c.args.child w.push-in-Fork.ensures
      | in-Inner w ↦
          inner_gains c.args.self.now (the_view c.match-self.self-inside) (Some w.in-Inner.field-0) bs w.deref_mut-in-Inner.result.now w.push-in-Inner.new.self
          (sym c.self.view_is ∙ ap (seen bs) w.in-Inner.is ∙ ap (λ k. with_content (Some w.in-Inner.field-0) bs (Inner k)) (sym w.deref_mut-in-Inner.ensures.value))
          (ap the_view w.self-inside-is)
          w.push-in-Inner.ensures.split c.args.head c.args.child w.push-in-Inner.ensures.heads w.push-in-Inner.ensures.children
    ]
