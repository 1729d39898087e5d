use Rattle.si_defs.specs.Substitutions.{Grows}
use Rattle.si_legal.specs.Bindings.{Binding}
use Rattle.std.specs.Prelude.{List}
use Rattle.si_insert.specs.Passing.{MayPass}
use Rattle.si_insert.proofs.PassLaws.{LeftToPass}
use Rattle.si_insert.proofs.pass.all_fit.Given as goal

abbrev pub invariant-loop-pair : goal.invariant-loop-pair
invariant-loop-pair l =
    (goal.iterator-loop-pair).can_next l.pair-iterator
    × (goal.iterator-loop-pair).is_finite l.pair-iterator
    × Grows l.fn.openings l.openings
    × ((there bs : List Binding) → MayPass l.fn.cells l.fn.openings l.fn.node there bs → LeftToPass l.fn.cells l.fn.openings l.openings there bs l.pair-iterator)
