use Rattle.si_tree_examples.proofs.RemovalsProved.{three_nodes_legal, joins_leaf, no_other_child, no_uncomposed, no_root_joined}
use Rattle.si_tree_examples.proofs.removals.joined_nodes.Goals as goal

pub returns-clause-three_nodes : goal.returns-clause-three_nodes
returns-clause-three_nodes c = three_nodes_legal

pub returns-clause-joins_leaf : goal.returns-clause-joins_leaf
returns-clause-joins_leaf c = joins_leaf

pub returns-clause-no_other_child : goal.returns-clause-no_other_child
returns-clause-no_other_child c = no_other_child

pub returns-clause-no_uncomposed : goal.returns-clause-no_uncomposed
returns-clause-no_uncomposed c = no_uncomposed

pub returns-clause-no_root_joined : goal.returns-clause-no_root_joined
returns-clause-no_root_joined c = no_root_joined
