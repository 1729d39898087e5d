use Rattle.std.proofs.Common.{◌+◌, ◌*◌}
use Rattle.si_sample.proofs.sampler.Sampler.+terms.Given as goal

abbrev pub decreases-term : goal.decreases-term
decreases-term l = 2 * l.depth

abbrev pub decreases-unary : goal.decreases-unary
decreases-unary l = 2 * l.depth + 1

abbrev pub decreases-binary : goal.decreases-binary
decreases-binary l = 2 * l.depth + 1
