use Rattle.si_laws.proofs.OutcomeLaws.{one_load}
use Rattle.si_laws.proofs.loads_have_one_outcome.Goals as goal

pub returns : goal.returns
returns c = one_load
