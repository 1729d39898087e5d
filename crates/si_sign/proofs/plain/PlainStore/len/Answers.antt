use Rattle.std.proofs.Common.{subst}
use Rattle.si_sign.specs.Stores.{IsStored}
use Rattle.si_sign.proofs.plain.PlainStore.len.Goals as goal

pub returns-clause-stored : goal.returns-clause-stored
returns-clause-stored c = subst (λ v. IsStored v.0 v.1) c.self.view_is c.self.invariant.0
