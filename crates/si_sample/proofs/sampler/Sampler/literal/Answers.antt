use Rattle.std.proofs.lemmas.Result.{on_ok_weaker}
use Rattle.si_sample.proofs.Gaining.{gains_literal}
use Rattle.si_sample.proofs.sampler.Sampler.literal.Goals as goal

pub returns : goal.returns
returns c = on_ok_weaker c.atom.result (λ g. gains_literal c.in_ok-sign.ensures g) c.atom.ensures
