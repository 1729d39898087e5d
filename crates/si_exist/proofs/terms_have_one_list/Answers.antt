use Rattle.si_exist.proofs.OneSolution.{one_list}
use Rattle.si_exist.proofs.terms_have_one_list.Goals as goal

pub returns : goal.returns
returns c = one_list
