use Rattle.si_tree_examples.proofs.SplitsProved.{fresh_indicator, kept_indicator, whole_right_side}
use Rattle.si_tree_examples.proofs.splits.split_bindings.Goals as goal

pub returns-clause-fresh_indicator : goal.returns-clause-fresh_indicator
returns-clause-fresh_indicator c = fresh_indicator

pub returns-clause-kept_indicator : goal.returns-clause-kept_indicator
returns-clause-kept_indicator c = kept_indicator

pub returns-clause-whole_right_side : goal.returns-clause-whole_right_side
returns-clause-whole_right_side c = whole_right_side
