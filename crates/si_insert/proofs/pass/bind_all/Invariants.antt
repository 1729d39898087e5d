use Rattle.std.specs.List.{AllByRecursion}
use Rattle.std.specs.Prelude.{List}
use Rattle.si_defs.specs.Substitutions.{IsAmong}
use Rattle.si_flat.specs.Rows.{left_sides}
use Rattle.si_insert.specs.declared.open.Opened.{Opened}
use Rattle.si_insert.specs.Opened.{numbers}
use Rattle.si_insert.specs.Passing.{IsBoundBy}
use Rattle.si_insert.proofs.pass.bind_all.Given as goal

abbrev pub invariant-loop-pair : goal.invariant-loop-pair
invariant-loop-pair l =
    (goal.iterator-loop-pair).can_next l.pair-iterator
    × (goal.iterator-loop-pair).is_finite l.pair-iterator
    × AllByRecursion (IsAmong (numbers l.openings)) (left_sides l.pair-iterator)
    × ((end : List Opened) → IsBoundBy (left_sides l.pair-iterator) l.openings end → IsBoundBy (left_sides l.fn.node) l.fn.openings end)
