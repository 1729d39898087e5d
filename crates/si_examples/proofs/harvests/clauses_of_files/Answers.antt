use Rattle.si_examples.proofs.OneHarvest.{plain_file, selected_clause, taken_name}
use Rattle.si_examples.proofs.harvests.clauses_of_files.Goals as goal

pub returns-clause-plain_file : goal.returns-clause-plain_file
returns-clause-plain_file c = plain_file

pub returns-clause-selected_clause : goal.returns-clause-selected_clause
returns-clause-selected_clause c = selected_clause

pub returns-clause-taken_name : goal.returns-clause-taken_name
returns-clause-taken_name c = taken_name
