use Rattle.si_harvest.proofs.Refusals.{why_rejected}
use Rattle.si_harvest.proofs.store.refusal.Goals as goal

pub returns : goal.returns
returns c = λ rules state r. why_rejected c.args.rejected rules state c.requires c.in_default.not-Memory r
