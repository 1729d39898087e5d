use Rattle.si_descend.proofs.EndTurns.{IsAdding}
use Rattle.si_descend.proofs.ends.add_ends.Given as goal

abbrev pub invariant-loop-pair : goal.invariant-loop-pair
invariant-loop-pair l = IsAdding l.slots l.trail.pairs l.bindings l.pair-iterator l.fn.ends l.ends
