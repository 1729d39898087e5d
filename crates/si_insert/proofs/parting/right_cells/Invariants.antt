use Rattle.std.proofs.Common.{◌≡◌, ◌+◌, ◌≤◌, min}
use Rattle.si_insert.specs.Parting.{right_lengths}
use Rattle.si_insert.proofs.parting.right_cells.Given as goal

abbrev pub invariant-loop-pair : goal.invariant-loop-pair
invariant-loop-pair l =
    (goal.iterator-loop-pair).can_next l.pair-iterator
    × (goal.iterator-loop-pair).is_finite l.pair-iterator
    × (l.count ≤ 18446744073709551615)
    × (min (l.count + right_lengths l.pair-iterator) 18446744073709551615 ≡ min (right_lengths l.fn.bindings) 18446744073709551615)
