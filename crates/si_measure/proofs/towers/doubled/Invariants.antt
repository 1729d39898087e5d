use Rattle.std.proofs.Common.{◌≡◌}
use Rattle.si_flat.specs.Cells.{cells_of}
use Rattle.si_measure.specs.Systems.{variable, doubled}
use Rattle.si_measure.proofs.towers.doubled.Given as goal

abbrev pub invariant-loop : goal.invariant-loop
invariant-loop l = l.term ≡ cells_of (doubled l.counter (variable l.fn.owner l.fn.number))
