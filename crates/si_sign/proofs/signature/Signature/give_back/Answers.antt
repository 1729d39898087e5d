use Rattle.si_sign.proofs.KeptLaws.{is_signature}
use Rattle.si_sign.proofs.signature.Signature.give_back.Goals as goal

pub returns-clause-signature : goal.returns-clause-signature
returns-clause-signature c = is_signature c.give_back_literals.new.self c.give_back_literals.ensures.uses
