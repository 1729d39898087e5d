use Rattle.si_insert.proofs.OpenPairs.{AreMet}
use Rattle.si_insert.proofs.open.Openings.bindings.Given as goal

abbrev pub invariant-loop-opened : goal.invariant-loop-opened
invariant-loop-opened l = AreMet l.cells l.self l.bindings l.opened-index
