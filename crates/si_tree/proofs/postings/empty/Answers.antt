use Rattle.std.proofs.Common.{arith}
use Rattle.std.proofs.lemmas.Bool.{le-ltb}
use Rattle.si_tree.proofs.StandingLaws.{emptied}
use Rattle.si_tree.proofs.postings.empty.Goals as goal

pub returns : goal.returns
returns c = λ p got. emptied c.args.slots.now.items c.args.place p _ got (le-ltb _ _ (omega (arith, c.saturating_add.ensures)))
