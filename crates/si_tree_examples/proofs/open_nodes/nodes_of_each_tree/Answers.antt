use Rattle.si_tree_examples.proofs.OpenInEachProved.{root_open, nodes_above, leaves_relate}
use Rattle.si_tree_examples.proofs.open_nodes.nodes_of_each_tree.Goals as goal

pub returns-clause-root_open : goal.returns-clause-root_open
returns-clause-root_open c = root_open

pub returns-clause-open_above : goal.returns-clause-open_above
returns-clause-open_above c = nodes_above

pub returns-clause-leaves_relate : goal.returns-clause-leaves_relate
returns-clause-leaves_relate c = leaves_relate
