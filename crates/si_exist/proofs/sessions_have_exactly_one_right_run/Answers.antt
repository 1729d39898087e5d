use Rattle.si_state.specs.States.{empty_state}
use Rattle.si_laws.proofs.RunLaws.{one_session}
use Rattle.si_exist.proofs.RightSteps.{right_run}
use Rattle.si_exist.proofs.sessions_have_exactly_one_right_run.Goals as goal

pub returns-clause-some : goal.returns-clause-some
returns-clause-some c = λ setting files requests. right_run setting files empty_state requests

pub returns-clause-alike : goal.returns-clause-alike
returns-clause-alike c = one_session
