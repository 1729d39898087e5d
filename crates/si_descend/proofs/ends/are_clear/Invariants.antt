use Rattle.si_descend.proofs.EndTurns.{AreClearBefore}
use Rattle.si_descend.proofs.ends.are_clear.Given as goal

abbrev pub invariant-loop-n : goal.invariant-loop-n
invariant-loop-n l = AreClearBefore l.slots l.trail.pairs l.ends l.n
