use Rattle.si_form.proofs.DownLaws.{IsDown}
use Rattle.si_form.proofs.unifying.application_size.Given as goal

abbrev pub invariant-loop : goal.invariant-loop
invariant-loop l = IsDown l.slots l.trail.pairs l.slot l.at l.counter
