use Rattle.si_descend.proofs.EndTurns.{IsGoingDown}
use Rattle.si_descend.proofs.ends.find_ends_below.Given as goal

abbrev pub invariant-loop : goal.invariant-loop
invariant-loop l = IsGoingDown l.search.slots l.trail.pairs l.search.tree.now l.fn.node l.at l.ends
