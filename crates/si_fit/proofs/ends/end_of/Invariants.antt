use Rattle.si_fit.proofs.EndLaws.{IsDown}
use Rattle.si_fit.proofs.ends.end_of.Given as goal

abbrev pub invariant-loop : goal.invariant-loop
invariant-loop l = IsDown l.slots l.trail.pairs l.start l.reached l.counter
