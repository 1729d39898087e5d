use Rattle.si_steps.proofs.OneSample.{some_text, no_other_text}
use Rattle.si_examples.proofs.TwoClauses.{two_clauses, no_other_variable, no_clause_zero}
use Rattle.si_examples.proofs.samples.drawn_clauses.Goals as goal

pub returns-clause-two_clauses : goal.returns-clause-two_clauses
returns-clause-two_clauses c = two_clauses

pub returns-clause-some_text : goal.returns-clause-some_text
returns-clause-some_text c = some_text

pub returns-clause-no_other_text : goal.returns-clause-no_other_text
returns-clause-no_other_text c = no_other_text

pub returns-clause-no_other_variable : goal.returns-clause-no_other_variable
returns-clause-no_other_variable c = no_other_variable

pub returns-clause-no_clause_zero : goal.returns-clause-no_clause_zero
returns-clause-no_clause_zero c = no_clause_zero
