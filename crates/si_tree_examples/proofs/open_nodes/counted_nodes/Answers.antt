use Rattle.si_tree_examples.proofs.CountsProved.{four_open, no_other_count}
use Rattle.si_tree_examples.proofs.open_nodes.counted_nodes.Goals as goal

pub returns-clause-four_open : goal.returns-clause-four_open
returns-clause-four_open c = four_open

pub returns-clause-no_other_count : goal.returns-clause-no_other_count
returns-clause-no_other_count c = no_other_count
