use Rattle.si_tree_examples.proofs.SplitsProved.{no_general_part, no_low_indicator, no_swapped_rests}
use Rattle.si_tree_examples.proofs.splits.wrong_splits.Goals as goal

pub returns-clause-no_general_part : goal.returns-clause-no_general_part
returns-clause-no_general_part c = no_general_part

pub returns-clause-no_low_indicator : goal.returns-clause-no_low_indicator
returns-clause-no_low_indicator c = no_low_indicator

pub returns-clause-no_swapped_rests : goal.returns-clause-no_swapped_rests
returns-clause-no_swapped_rests c = no_swapped_rests
