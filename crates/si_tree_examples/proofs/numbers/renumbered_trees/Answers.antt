use Rattle.si_tree_examples.proofs.NumbersProved.{seven_to_one, no_seven_to_two, no_large_next, two_to_one, keeps_terms, no_next_kept}
use Rattle.si_tree_examples.proofs.numbers.renumbered_trees.Goals as goal

pub returns-clause-seven_to_one : goal.returns-clause-seven_to_one
returns-clause-seven_to_one c = seven_to_one

pub returns-clause-no_seven_to_two : goal.returns-clause-no_seven_to_two
returns-clause-no_seven_to_two c = no_seven_to_two

pub returns-clause-no_large_next : goal.returns-clause-no_large_next
returns-clause-no_large_next c = no_large_next

pub returns-clause-two_to_one : goal.returns-clause-two_to_one
returns-clause-two_to_one c = two_to_one

pub returns-clause-keeps_terms : goal.returns-clause-keeps_terms
returns-clause-keeps_terms c = keeps_terms

pub returns-clause-no_next_kept : goal.returns-clause-no_next_kept
returns-clause-no_next_kept c = no_next_kept
