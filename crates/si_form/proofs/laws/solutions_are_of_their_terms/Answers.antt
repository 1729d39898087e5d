use Rattle.si_form.proofs.SolutionLaws.{solutions_are_of_terms, predicates_stay_out, signs_stay_out}
use Rattle.si_form.proofs.laws.solutions_are_of_their_terms.Goals as goal

pub returns-clause-terms : goal.returns-clause-terms
returns-clause-terms c = solutions_are_of_terms

pub returns-clause-predicates : goal.returns-clause-predicates
returns-clause-predicates c = predicates_stay_out

pub returns-clause-signs : goal.returns-clause-signs
returns-clause-signs c = signs_stay_out
