use Rattle.si_measure.proofs.Adding.{no_arguments}
use Rattle.si_measure.proofs.row.Row.new.Goals as goal

pub invariant_of-result : goal.invariant_of-result
invariant_of-result c = no_arguments c.new.result.items c.new.ensures.items
