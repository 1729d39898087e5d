use Rattle.si_laws.proofs.CommandLaws.{one_meaning}
use Rattle.si_laws.proofs.lines_have_one_meaning.Goals as goal

pub returns : goal.returns
returns c = one_meaning
