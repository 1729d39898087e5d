use Rattle.si_tree_examples.proofs.TreesProved.{no_single_child, no_bare_indicator, no_indicator_twice, no_indicator_again, no_foreign_binding, no_bound_split, no_split_unbound, no_equal_heads, no_term_twice, no_open_leaf, no_later_variable, no_large_indicator, no_large_variable, no_forgotten_child, no_posting_twice}
use Rattle.si_tree_examples.proofs.trees.illegal_trees.Goals as goal

pub returns-clause-no_single_child : goal.returns-clause-no_single_child
returns-clause-no_single_child c = no_single_child

pub returns-clause-no_bare_indicator : goal.returns-clause-no_bare_indicator
returns-clause-no_bare_indicator c = no_bare_indicator

pub returns-clause-no_indicator_twice : goal.returns-clause-no_indicator_twice
returns-clause-no_indicator_twice c = no_indicator_twice

pub returns-clause-no_indicator_again : goal.returns-clause-no_indicator_again
returns-clause-no_indicator_again c = no_indicator_again

pub returns-clause-no_foreign_binding : goal.returns-clause-no_foreign_binding
returns-clause-no_foreign_binding c = no_foreign_binding

pub returns-clause-no_bound_split : goal.returns-clause-no_bound_split
returns-clause-no_bound_split c = no_bound_split

pub returns-clause-no_split_unbound : goal.returns-clause-no_split_unbound
returns-clause-no_split_unbound c = no_split_unbound

pub returns-clause-no_equal_heads : goal.returns-clause-no_equal_heads
returns-clause-no_equal_heads c = no_equal_heads

pub returns-clause-no_term_twice : goal.returns-clause-no_term_twice
returns-clause-no_term_twice c = no_term_twice

pub returns-clause-no_open_leaf : goal.returns-clause-no_open_leaf
returns-clause-no_open_leaf c = no_open_leaf

pub returns-clause-no_later_variable : goal.returns-clause-no_later_variable
returns-clause-no_later_variable c = no_later_variable

pub returns-clause-no_large_indicator : goal.returns-clause-no_large_indicator
returns-clause-no_large_indicator c = no_large_indicator

pub returns-clause-no_large_variable : goal.returns-clause-no_large_variable
returns-clause-no_large_variable c = no_large_variable

pub returns-clause-no_forgotten_child : goal.returns-clause-no_forgotten_child
returns-clause-no_forgotten_child c = no_forgotten_child

pub returns-clause-no_posting_twice : goal.returns-clause-no_posting_twice
returns-clause-no_posting_twice c = no_posting_twice
