use Rattle.si_tree_examples.proofs.FiveNodesProved.{five_nodes_legal, stored_postings}
use Rattle.si_tree_examples.proofs.VariableLeavesProved.{variable_leaves_legal}
use Rattle.si_tree_examples.proofs.ChangesProved.{shared_leaf, no_turned_postings}
use Rattle.si_tree_examples.proofs.RemovalsProved.{unmerged_leaf, nothing_stored}
use Rattle.si_tree_examples.proofs.trees.legal_trees.Goals as goal

pub returns-clause-five_nodes : goal.returns-clause-five_nodes
returns-clause-five_nodes c = five_nodes_legal

pub returns-clause-stored_postings : goal.returns-clause-stored_postings
returns-clause-stored_postings c = stored_postings

pub returns-clause-variable_leaves : goal.returns-clause-variable_leaves
returns-clause-variable_leaves c = variable_leaves_legal

pub returns-clause-unmerged_leaf : goal.returns-clause-unmerged_leaf
returns-clause-unmerged_leaf c = unmerged_leaf

pub returns-clause-nothing_stored : goal.returns-clause-nothing_stored
returns-clause-nothing_stored c = nothing_stored

pub returns-clause-shared_leaf : goal.returns-clause-shared_leaf
returns-clause-shared_leaf c = shared_leaf

pub returns-clause-no_turned_postings : goal.returns-clause-no_turned_postings
returns-clause-no_turned_postings c = no_turned_postings
