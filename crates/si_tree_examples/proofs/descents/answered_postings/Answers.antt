use Rattle.si_tree_examples.proofs.DescentsProved.{answers_instance, no_leaf_elsewhere}
use Rattle.si_tree_examples.proofs.descents.answered_postings.Goals as goal

pub returns-clause-answers_instance : goal.returns-clause-answers_instance
returns-clause-answers_instance c = answers_instance

pub returns-clause-no_leaf_elsewhere : goal.returns-clause-no_leaf_elsewhere
returns-clause-no_leaf_elsewhere c = no_leaf_elsewhere
