use Rattle.si_examples.proofs.TwoVariables.{leads, follows, no_list}
use Rattle.si_examples.proofs.unifiers.canonical_lists_of_variables.Goals as goal

pub returns-clause-first_variable_leads : goal.returns-clause-first_variable_leads
returns-clause-first_variable_leads c = leads

pub returns-clause-second_variable_follows : goal.returns-clause-second_variable_follows
returns-clause-second_variable_follows c = follows

pub returns-clause-no_empty_list : goal.returns-clause-no_empty_list
returns-clause-no_empty_list c = no_list
