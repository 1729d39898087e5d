use Rattle.std.proofs.Common.{subst}
use Rattle.si_state.specs.Signatures.{IsSignature}
use Rattle.si_sign.proofs.KeptLaws.{is_signature}
use Rattle.si_sign.proofs.signature.Signature.total.Goals as goal

pub returns-clause-signature : goal.returns-clause-signature
returns-clause-signature c = subst IsSignature c.self.view_is (is_signature c.self.inside.uses c.self.invariant)
