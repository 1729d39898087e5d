use Rattle.si_examples.proofs.OneClash.{removed_clause, nothing_counted, none_uncounted}
use Rattle.si_examples.proofs.steps.removals_and_counts.Goals as goal

pub returns-clause-removed_clause : goal.returns-clause-removed_clause
returns-clause-removed_clause c = removed_clause

pub returns-clause-nothing_counted : goal.returns-clause-nothing_counted
returns-clause-nothing_counted c = nothing_counted

pub returns-clause-none_uncounted : goal.returns-clause-none_uncounted
returns-clause-none_uncounted c = none_uncounted
