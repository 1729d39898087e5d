use Rattle.std.proofs.Common.{◌≡◌}
use Rattle.std.proofs.lemmas.Result.{on_ok_weaker}
use Rattle.si_sample.proofs.Gaining.{gains_first, gains_second}
use Rattle.si_sample.proofs.sampler.Sampler.atom.Goals as goal

pub returns-in-0 : goal.returns-in-0
returns-in-0 c = on_ok_weaker c.binary.result (λ g. gains_first _ c.draw.result c.in-0.is c.draw.ensures.drawn g) c.binary.ensures

pub returns-in_default : goal.returns-in_default
returns-in_default c =
    let some : c.draw.result ≡ 0 → ⊥ = assumption (c.in_default) in
    on_ok_weaker c.unary.result (λ g. gains_second _ c.draw.result some c.draw.ensures.below c.draw.ensures.drawn g) c.unary.ensures
