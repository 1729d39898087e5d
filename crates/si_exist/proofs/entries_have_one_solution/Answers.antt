use Rattle.si_exist.proofs.OneSolution.{one_solution}
use Rattle.si_exist.proofs.entries_have_one_solution.Goals as goal

pub returns : goal.returns
returns c = one_solution
