use Rattle.si_tree_examples.proofs.LinksProved.{no_tree_without_root, no_root_with_parent, no_leaf_as_root, no_second_root, no_missing_parent, no_circle, no_missing_child, no_foreign_child, no_child_twice, no_child_below_leaf}
use Rattle.si_tree_examples.proofs.trees.illegal_links.Goals as goal

pub returns-clause-no_tree_without_root : goal.returns-clause-no_tree_without_root
returns-clause-no_tree_without_root c = no_tree_without_root

pub returns-clause-no_root_with_parent : goal.returns-clause-no_root_with_parent
returns-clause-no_root_with_parent c = no_root_with_parent

pub returns-clause-no_leaf_as_root : goal.returns-clause-no_leaf_as_root
returns-clause-no_leaf_as_root c = no_leaf_as_root

pub returns-clause-no_second_root : goal.returns-clause-no_second_root
returns-clause-no_second_root c = no_second_root

pub returns-clause-no_missing_parent : goal.returns-clause-no_missing_parent
returns-clause-no_missing_parent c = no_missing_parent

pub returns-clause-no_circle : goal.returns-clause-no_circle
returns-clause-no_circle c = no_circle

pub returns-clause-no_missing_child : goal.returns-clause-no_missing_child
returns-clause-no_missing_child c = no_missing_child

pub returns-clause-no_foreign_child : goal.returns-clause-no_foreign_child
returns-clause-no_foreign_child c = no_foreign_child

pub returns-clause-no_child_twice : goal.returns-clause-no_child_twice
returns-clause-no_child_twice c = no_child_twice

pub returns-clause-no_child_below_leaf : goal.returns-clause-no_child_below_leaf
returns-clause-no_child_below_leaf c = no_child_below_leaf
