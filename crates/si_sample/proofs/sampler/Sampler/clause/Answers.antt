use Rattle.std.proofs.Common.{◌≡◌, ◌∙◌, subst}
use Rattle.std.proofs.lemmas.Result.{on_ok_weaker}
use Rattle.std.specs.Prelude.{decimal}
use Rattle.si_defs.specs.Generator.{exactly}
use Rattle.si_sample.specs.Sampling.{DrawsOnto}
use Rattle.si_sample.proofs.Gaining.{gains_both, gains_clause}
use Rattle.si_sample.proofs.sampler.Sampler.clause.Goals as goal

pub returns : goal.returns
returns c =
    let digits : c.as_bytes.result.now ≡ decimal c.args.number = c.as_bytes.ensures.value ∙ c.format.ensures.text in
    let number : DrawsOnto (exactly (decimal c.args.number)) c.put.new.self c.put-2.new.self =
    subst (λ l. DrawsOnto (exactly l) c.put.new.self c.put-2.new.self) digits c.in_ok-put-2.ensures in
    on_ok_weaker c.put-4.result
    (λ g. gains_clause c.args.number (gains_both _ _ (gains_both _ _ c.in_ok-put.ensures number) c.in_ok-put-3.ensures) c.in_ok-literals.ensures g)
    c.put-4.ensures
