use Rattle.si_laws.proofs.OutcomeLaws.{one_outcome}
use Rattle.si_laws.proofs.commands_have_one_outcome.Goals as goal

pub returns : goal.returns
returns c = one_outcome
