use Rattle.si_examples.proofs.OneClash.{added_clause, full_index, clashing_symbol, no_clash, no_agreement}
use Rattle.si_examples.proofs.steps.added_clauses.Goals as goal

pub returns-clause-added_clause : goal.returns-clause-added_clause
returns-clause-added_clause c = added_clause

pub returns-clause-full_index : goal.returns-clause-full_index
returns-clause-full_index c = full_index

pub returns-clause-clashing_symbol : goal.returns-clause-clashing_symbol
returns-clause-clashing_symbol c = clashing_symbol

pub returns-clause-no_clash : goal.returns-clause-no_clash
returns-clause-no_clash c = no_clash

pub returns-clause-no_agreement : goal.returns-clause-no_agreement
returns-clause-no_agreement c = no_agreement
