use Rattle.si_base_tests.proofs.Nodes.{child_there, child_node, child_below}
use Rattle.si_base_tests.proofs.shapes.child.Goals as goal

pub returns-clause-node : goal.returns-clause-node
returns-clause-node g c =
    child_node c.args.tree.now c.args.node c.at-found.result
    (child_there c.args.tree.now c.args.node c.args.place c.at-found.result c.children-children.result.now c.root.ensures.legal c.requires c.children-children.ensures c.at-found.ensures)

pub returns-clause-parent : goal.returns-clause-parent
returns-clause-parent g c =
    child_below c.args.tree.now c.args.node c.at-found.result
    (child_there c.args.tree.now c.args.node c.args.place c.at-found.result c.children-children.result.now c.root.ensures.legal c.requires c.children-children.ensures c.at-found.ensures)
