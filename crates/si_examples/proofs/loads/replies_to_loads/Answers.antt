use Rattle.si_examples.proofs.OneLoad.{loaded_line, own_include_owed, no_gain_without_file}
use Rattle.si_examples.proofs.loads.replies_to_loads.Goals as goal

pub returns-clause-loaded_line : goal.returns-clause-loaded_line
returns-clause-loaded_line c = loaded_line

pub returns-clause-no_gain_without_file : goal.returns-clause-no_gain_without_file
returns-clause-no_gain_without_file c = no_gain_without_file

pub returns-clause-own_include_owed : goal.returns-clause-own_include_owed
returns-clause-own_include_owed c = own_include_owed
