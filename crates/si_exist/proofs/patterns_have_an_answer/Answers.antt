use Rattle.si_exist.proofs.OneSolution.{an_answer}
use Rattle.si_exist.proofs.patterns_have_an_answer.Goals as goal

pub returns : goal.returns
returns c = an_answer
