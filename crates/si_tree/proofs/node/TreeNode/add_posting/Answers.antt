use Rattle.std.proofs.Common.{refl, sym, ◌∙◌, ap}
use Rattle.si_tree.proofs.NodeSteps.{seen}
use Rattle.si_tree.proofs.node.TreeNode.add_posting.Goals as goal

pub returns-in-Many-clause-stays : goal.returns-in-Many-clause-stays
returns-in-Many-clause-stays c =
    let was = sym c.self.view_is ∙ ap (seen c.self.inside.bindings) c.in-Many.is in
    record { parent = sym (ap (λ n. n.parent) was); bindings = sym (ap (λ n. n.bindings) was); leaf_still = (_, refl) }
