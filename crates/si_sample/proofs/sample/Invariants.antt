use Rattle.si_defs.specs.Generator.{clauses}
use Rattle.si_sample.specs.Sampling.{DrawsOnto}
use Rattle.si_sample.proofs.sample.Given as goal

abbrev pub invariant-loop-i : goal.invariant-loop-i
invariant-loop-i l = DrawsOnto (clauses l.i) l.initial.sampler l.sampler
