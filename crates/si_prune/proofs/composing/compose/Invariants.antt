use Rattle.std.proofs.Common.{IfSome}
use Rattle.si_tree.specs.Numbers.{rights_in}
use Rattle.si_prune.specs.Pruning.{AreNumbersInOrder, carried_pairs}
use Rattle.si_prune.proofs.AddLaws.{IsAdding}
use Rattle.si_prune.proofs.composing.compose.Given as goal

abbrev pub invariant-loop-pair : goal.invariant-loop-pair
invariant-loop-pair l =
    IsAdding (rights_in l.node) (carried_pairs l.node l.child) l.child l.both l.pair-iterator
    × IfSome l.opened (λ numbers. AreNumbersInOrder (rights_in l.node) numbers.items)
