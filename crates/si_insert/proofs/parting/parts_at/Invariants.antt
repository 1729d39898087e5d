use Rattle.std.specs.Prelude.{List}
use Rattle.si_legal.specs.Bindings.{Binding}
use Rattle.si_insert.specs.Passing.{MayPass}
use Rattle.si_insert.proofs.PartLaws.{LeftToGive}
use Rattle.si_insert.proofs.parting.parts_at.Given as goal

abbrev pub invariant-loop-pair : goal.invariant-loop-pair
invariant-loop-pair l =
    (goal.iterator-loop-pair).can_next l.pair-iterator
    × (goal.iterator-loop-pair).is_finite l.pair-iterator
    × ((there bs : List Binding) → MayPass l.cells l.openings l.bindings there bs → LeftToGive l.cells l.openings there bs l.pair-iterator l.new)
