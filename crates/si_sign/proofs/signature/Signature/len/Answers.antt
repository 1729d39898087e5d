use Rattle.std.proofs.Common.{length, ap, subst, ◌∙◌, sym, arith}
use Rattle.si_state.specs.Signatures.{IsSignature}
use Rattle.si_sign.specs.Uses.{seen}
use Rattle.si_sign.proofs.KeptLaws.{is_signature, length_seen, length_total}
use Rattle.si_sign.proofs.signature.Signature.len.Goals as goal

pub overflow_cast-result : goal.overflow_cast-result
overflow_cast-result c =
    let u = c.self.inside.uses in
    omega (arith, c.len.ensures, length_seen u, length_total (seen u) (is_signature u c.self.invariant).used, c.self.invariant.counted, c.self.invariant.few)

pub returns-clause-number : goal.returns-clause-number
returns-clause-number c = c.len.ensures ∙ sym (length_seen c.self.inside.uses) ∙ ap length c.self.view_is

pub returns-clause-signature : goal.returns-clause-signature
returns-clause-signature c = subst IsSignature c.self.view_is (is_signature c.self.inside.uses c.self.invariant)
