use Rattle.std.proofs.Common.{arith}
use Rattle.std.proofs.lemmas.Bool.{le-ltb}
use Rattle.si_tree.proofs.postings.Slot.empty.Goals as goal

pub returns : goal.returns
returns c = le-ltb _ _ (omega (arith, c.saturating_add-self.ensures))
