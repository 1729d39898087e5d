use Rattle.std.proofs.Common.{IfSome}
use Rattle.si_prune.specs.Pruning.{AreInLeftOrder}
use Rattle.si_prune.proofs.CarryLaws.{IsCarrying}
use Rattle.si_prune.proofs.composing.carried.Given as goal

abbrev pub invariant-loop-pair : goal.invariant-loop-pair
invariant-loop-pair l =
    IsCarrying l.node l.child l.both l.pair-iterator l.draft.items
    × IfSome l.order (λ pairs. AreInLeftOrder l.child pairs.items)
