use Rattle.si_base_tests.proofs.Nodes.{root_node}
use Rattle.si_base_tests.proofs.shapes.root_of.Goals as goal

pub returns-clause-node : goal.returns-clause-node
returns-clause-node c = root_node c.args.tree.now c.root.result c.root.ensures.legal c.root.ensures.root
