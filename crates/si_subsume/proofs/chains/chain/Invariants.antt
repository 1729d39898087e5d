use Rattle.si_subsume.proofs.ChainLaws.{IsChaining}
use Rattle.si_subsume.proofs.chains.chain.Given as goal

abbrev pub invariant-loop-behind : goal.invariant-loop-behind
invariant-loop-behind l = IsChaining l.first.items l.next.items l.labels l.behind
