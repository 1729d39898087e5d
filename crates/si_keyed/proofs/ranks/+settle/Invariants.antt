use Rattle.std.proofs.Common.{◌+◌, ◌*◌, length}
use Rattle.si_keyed.proofs.ranks.+settle.Given as goal

abbrev pub decreases-Ranks::sum_up : goal.decreases-Ranks::sum_up
decreases-Ranks::sum_up l = 2 * length l.below.now

abbrev pub decreases-settle : goal.decreases-settle
decreases-settle l = 2 * length l.counts.now + 1
