use Rattle.std.proofs.Common.{◌∷◌, [], get_or, codes}
use Rattle.std.proofs.lemmas.Result.{on_ok_weaker}
use Rattle.si_defs.specs.Generator.{exactly, rule_at, leaves}
use Rattle.si_sample.specs.Sampling.{DrawsOnto}
use Rattle.si_sample.proofs.Gaining.{gains_letter}
use Rattle.si_sample.proofs.sampler.Sampler.leaf.Goals as goal

pub returns : goal.returns
returns c = on_ok_weaker c.put.result so c.put.ensures where
  so : DrawsOnto (exactly (get_or (codes "XYab") c.args.number 0 ∷ [])) c.args.self.now c.put.new.self → DrawsOnto (rule_at leaves c.args.number) c.args.self.now c.put.new.self
  so g = gains_letter c.args.number c.requires g
