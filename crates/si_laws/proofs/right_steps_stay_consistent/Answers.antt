use Rattle.si_laws.proofs.OutcomeLaws.{step_stays}
use Rattle.si_laws.proofs.right_steps_stay_consistent.Goals as goal

pub returns : goal.returns
returns c = step_stays
