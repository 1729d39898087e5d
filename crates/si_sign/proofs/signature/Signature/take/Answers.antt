use Rattle.std.proofs.Common.{subst}
use Rattle.si_state.specs.Signatures.{KeepsNumbers}
use Rattle.si_sign.specs.Uses.{seen}
use Rattle.si_sign.proofs.KeptLaws.{is_signature}
use Rattle.si_sign.proofs.TakeLaws.{keeps_either}
use Rattle.si_sign.proofs.signature.Signature.take.Goals as goal

pub returns-clause-numbers : goal.returns-clause-numbers
returns-clause-numbers c =
    let u = c.self.inside.uses in
    let v = c.take_literals.new.self in
    subst (λ k. KeepsNumbers k (seen v)) c.self.view_is
    (keeps_either c.take_literals.result _ (seen u) (seen v) (is_signature u c.self.invariant) c.take_literals.ensures.ok c.take_literals.ensures.err)

pub returns-clause-signature : goal.returns-clause-signature
returns-clause-signature c = is_signature c.take_literals.new.self c.take_literals.ensures.uses
