use Rattle.std.proofs.Common.{◌≡◌, ◌+◌, length}
use Rattle.si_flat.specs.Rows.{left_sides}
use Rattle.si_legal.specs.Generalizations.{fresh_among}
use Rattle.si_tree.proofs.rights.next_after.Given as goal

abbrev pub invariant-loop-pair : goal.invariant-loop-pair
invariant-loop-pair l =
    l.after + length (fresh_among l.next (left_sides l.pair-iterator)) ≡ l.next + length (fresh_among l.next (left_sides l.bindings))
