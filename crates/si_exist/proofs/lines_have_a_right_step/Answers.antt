use Rattle.si_exist.proofs.RightSteps.{right_step}
use Rattle.si_exist.proofs.lines_have_a_right_step.Goals as goal

pub returns : goal.returns
returns c = right_step
