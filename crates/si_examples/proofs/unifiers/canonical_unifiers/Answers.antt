use Rattle.si_examples.proofs.SharedTerms.{bound_to_term, no_list_of_cycle, equal_variables, no_term_twice, no_part_for_variable}
use Rattle.si_examples.proofs.unifiers.canonical_unifiers.Goals as goal

pub returns-clause-bound_to_term : goal.returns-clause-bound_to_term
returns-clause-bound_to_term c = bound_to_term

pub returns-clause-no_list_of_cycle : goal.returns-clause-no_list_of_cycle
returns-clause-no_list_of_cycle c = no_list_of_cycle

pub returns-clause-equal_variables : goal.returns-clause-equal_variables
returns-clause-equal_variables c = equal_variables

pub returns-clause-no_term_twice : goal.returns-clause-no_term_twice
returns-clause-no_term_twice c = no_term_twice

pub returns-clause-no_part_for_variable : goal.returns-clause-no_part_for_variable
returns-clause-no_part_for_variable c = no_part_for_variable
