use Rattle.si_tree_examples.proofs.InsertionsProved.{first_insertion, second_insertion, third_insertion, no_old_next, no_equal_head}
use Rattle.si_tree_examples.proofs.insertions.inserted_terms.Goals as goal

pub returns-clause-first_insertion : goal.returns-clause-first_insertion
returns-clause-first_insertion c = first_insertion

pub returns-clause-second_insertion : goal.returns-clause-second_insertion
returns-clause-second_insertion c = second_insertion

pub returns-clause-third_insertion : goal.returns-clause-third_insertion
returns-clause-third_insertion c = third_insertion

pub returns-clause-no_old_next : goal.returns-clause-no_old_next
returns-clause-no_old_next c = no_old_next

pub returns-clause-no_equal_head : goal.returns-clause-no_equal_head
returns-clause-no_equal_head c = no_equal_head
