use Rattle.si_insert.proofs.AnewLaws.{renumbered_stays}
use Rattle.si_insert.proofs.inserting.renumber_if_due.Goals as goal

pub returns : goal.returns
returns c = renumbered_stays c.args.tree.now c.renumber.new.self c.renumber.result c.renumber.ensures.ok c.renumber.ensures.err
