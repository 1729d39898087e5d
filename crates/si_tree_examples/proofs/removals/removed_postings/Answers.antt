use Rattle.si_tree_examples.proofs.RemovalsProved.{removes_last, leaves_leaf, no_leaf_left, removes_either, no_leaf_below_root}
use Rattle.si_tree_examples.proofs.removals.removed_postings.Goals as goal

pub returns-clause-removes_last : goal.returns-clause-removes_last
returns-clause-removes_last c = removes_last

pub returns-clause-leaves_leaf : goal.returns-clause-leaves_leaf
returns-clause-leaves_leaf c = leaves_leaf

pub returns-clause-no_leaf_left : goal.returns-clause-no_leaf_left
returns-clause-no_leaf_left c = no_leaf_left

pub returns-clause-removes_either : goal.returns-clause-removes_either
returns-clause-removes_either c = removes_either

pub returns-clause-no_leaf_below_root : goal.returns-clause-no_leaf_below_root
returns-clause-no_leaf_below_root c = no_leaf_below_root
