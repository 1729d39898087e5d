use Rattle.std.proofs.Common.{◌≡◌}
use Rattle.std.proofs.lemmas.Result.{on_ok_weaker}
use Rattle.si_sample.proofs.Gaining.{gains_nothing, gains_first, gains_second}
use Rattle.si_sample.proofs.sampler.Sampler.sign.Goals as goal

pub returns-in-0 : goal.returns-in-0
returns-in-0 c = gains_first _ c.draw.result c.in-0.is c.draw.ensures.drawn (gains_nothing c.draw.new.self)

pub returns-in_default : goal.returns-in_default
returns-in_default c =
    let some : c.draw.result ≡ 0 → ⊥ = assumption (c.in_default) in
    on_ok_weaker c.put.result (λ g. gains_second _ c.draw.result some c.draw.ensures.below c.draw.ensures.drawn g) c.put.ensures
