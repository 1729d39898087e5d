use Rattle.std.proofs.Common.{vec_capacity}
use Rattle.si_keyed.proofs.PutLaws.{AreOnes}
use Rattle.si_keyed.proofs.ranks.put_ones.Given as goal

abbrev pub invariant-loop : goal.invariant-loop
invariant-loop l = AreOnes l.counts.items l.counter (vec_capacity l.counts) (vec_capacity l.fn.counts)
