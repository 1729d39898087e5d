use Rattle.std.proofs.Common.{refl}
use Rattle.si_sample.proofs.Gaining.{gains_put}
use Rattle.si_sample.proofs.sampler.Sampler.put.Goals as goal

pub returns : goal.returns
returns c = gains_put c.extend_from_slice.result _ _ _ c.extend_from_slice.ensures.items refl
