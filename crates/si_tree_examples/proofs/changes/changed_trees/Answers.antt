use Rattle.si_tree_examples.proofs.ChangesProved.{gains_posting, no_gain_in_front, loses_posting, keeps_leaf}
use Rattle.si_tree_examples.proofs.changes.changed_trees.Goals as goal

pub returns-clause-gains_posting : goal.returns-clause-gains_posting
returns-clause-gains_posting c = gains_posting

pub returns-clause-no_gain_in_front : goal.returns-clause-no_gain_in_front
returns-clause-no_gain_in_front c = no_gain_in_front

pub returns-clause-loses_posting : goal.returns-clause-loses_posting
returns-clause-loses_posting c = loses_posting

pub returns-clause-keeps_leaf : goal.returns-clause-keeps_leaf
returns-clause-keeps_leaf c = keeps_leaf
