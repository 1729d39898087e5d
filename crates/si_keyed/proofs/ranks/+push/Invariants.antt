use Rattle.std.proofs.Common.{◌+◌, ◌*◌, length}
use Rattle.si_keyed.proofs.ranks.+push.Given as goal

abbrev pub decreases-Ranks::push : goal.decreases-Ranks::push
decreases-Ranks::push l = 2 * length l.self.now + 1

abbrev pub decreases-grow : goal.decreases-grow
decreases-grow l = 2 * length l.counts.now
