use Rattle.std.proofs.Common.{◌≡◌}
use Rattle.std.specs.Vec.Iter.{into_iter_items}
use Rattle.si_tree.specs.Renumbers.{AreKeysOf, exchanged}
use Rattle.si_tree.proofs.renumber.exchange.Given as goal

abbrev pub invariant-loop-one : goal.invariant-loop-one
invariant-loop-one l =
    (goal.iterator-loop-one).can_next l.one-iterator
    × (goal.iterator-loop-one).is_finite l.one-iterator
    × AreKeysOf l.nodes (into_iter_items l.one-iterator)
    × (exchanged l.nodes (into_iter_items l.one-iterator) ≡ exchanged l.fn.nodes l.fn.all.items)
