use Rattle.si_laws.proofs.CommandLaws.{one_meaning}
use Rattle.si_laws.proofs.StepLaws.{one_step, one_step_without_load}
use Rattle.si_laws.proofs.lines_have_one_right_step.Goals as goal

pub returns-clause-step : goal.returns-clause-step
returns-clause-step c = λ setting files state line is. one_step setting files state line is (one_meaning line)

pub returns-clause-without_load : goal.returns-clause-without_load
returns-clause-without_load c = λ setting state line is none. one_step_without_load setting state line is (one_meaning line) none
