use Rattle.si_tree_examples.proofs.ContentsProved.{no_bound_twice, no_zero_again, no_query_variable, no_split_bound_later, no_equal_variables, no_turned_variables, no_unsound_term, no_large_term, no_posting_twice_in_leaf, no_next_zero, no_many_variables}
use Rattle.si_tree_examples.proofs.trees.illegal_contents.Goals as goal

pub returns-clause-no_bound_twice : goal.returns-clause-no_bound_twice
returns-clause-no_bound_twice c = no_bound_twice

pub returns-clause-no_zero_again : goal.returns-clause-no_zero_again
returns-clause-no_zero_again c = no_zero_again

pub returns-clause-no_query_variable : goal.returns-clause-no_query_variable
returns-clause-no_query_variable c = no_query_variable

pub returns-clause-no_split_bound_later : goal.returns-clause-no_split_bound_later
returns-clause-no_split_bound_later c = no_split_bound_later

pub returns-clause-no_equal_variables : goal.returns-clause-no_equal_variables
returns-clause-no_equal_variables c = no_equal_variables

pub returns-clause-no_turned_variables : goal.returns-clause-no_turned_variables
returns-clause-no_turned_variables c = no_turned_variables

pub returns-clause-no_unsound_term : goal.returns-clause-no_unsound_term
returns-clause-no_unsound_term c = no_unsound_term

pub returns-clause-no_large_term : goal.returns-clause-no_large_term
returns-clause-no_large_term c = no_large_term

pub returns-clause-no_posting_twice_in_leaf : goal.returns-clause-no_posting_twice_in_leaf
returns-clause-no_posting_twice_in_leaf c = no_posting_twice_in_leaf

pub returns-clause-no_next_zero : goal.returns-clause-no_next_zero
returns-clause-no_next_zero c = no_next_zero

pub returns-clause-no_many_variables : goal.returns-clause-no_many_variables
returns-clause-no_many_variables c = no_many_variables
