-- The words and numbers, and then the end of the line.
use Rattle.si_io.proofs.Sends.{Sends_then}
use Rattle.si_session.proofs.trees.put_tree_line.Goals as goal

pub returns : goal.returns
returns g c = Sends_then _ _ _ _ _ _ c.in_ok-put_tree.ensures.all c.put_separator.ensures
