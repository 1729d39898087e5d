use Rattle.std.proofs.Common.{refl, sym, ◌∙◌, ap}
use Rattle.si_tree.specs.KeptNodes.{content_of}
use Rattle.si_tree.specs.contracts.node.TreeNode.{the_view}
use Rattle.si_tree.proofs.NodeSteps.{seen}
use Rattle.si_tree.proofs.node.TreeNode.drop_posting.Goals.{in-One, in-Many}
use Rattle.si_tree.proofs.node.TreeNode.drop_posting.Goals as goal

pub returns-clause-stays : goal.returns-clause-stays
returns-clause-stays c =
    elim c.match-self.branch [
      | in-One w ↦
          let was = sym c.self.view_is ∙ ap (seen c.self.inside.bindings) w.in-One.is in
          let is = ap the_view w.self-inside-is in
          record { parent = ap (λ n. n.parent) is ∙ sym (ap (λ n. n.parent) was); bindings = ap (λ n. n.bindings) is ∙ sym (ap (λ n. n.bindings) was); leaf_still = (_, ap (λ n. content_of n.content) is) }
      | in-Many w ↦
          let was = sym c.self.view_is ∙ ap (seen c.self.inside.bindings) w.in-Many.is in
          let is = ap the_view w.self-inside-is in
          record { parent = ap (λ n. n.parent) is ∙ sym (ap (λ n. n.parent) was); bindings = ap (λ n. n.bindings) is ∙ sym (ap (λ n. n.bindings) was); leaf_still = (_, ap (λ n. content_of n.content) is) }
    ]
