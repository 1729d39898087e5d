use Rattle.std.proofs.Common.{length, vec_capacity}
use Rattle.si_keyed.proofs.PutLaws.{IsPut}
use Rattle.si_keyed.proofs.ranks.put_halves.Given as goal

abbrev pub invariant-loop-sum : goal.invariant-loop-sum
invariant-loop-sum l = IsPut l.counts l.rest l.sums.items (vec_capacity l.sums) (vec_capacity l.fn.sums)

abbrev pub decreases-loop-sum : goal.decreases-loop-sum
decreases-loop-sum l = length l.rest
