use Rattle.si_measure.specs.Systems.{tower, AddsEquations}
use Rattle.si_measure.proofs.towers.put_tower.Given as goal

abbrev pub invariant-loop-i : goal.invariant-loop-i
invariant-loop-i l = AddsEquations l.initial.sides l.sides (tower l.fn.owner l.fn.steps l.i)
