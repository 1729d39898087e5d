use Rattle.std.proofs.Common.{◌-◌, length}
use Rattle.si_tree.proofs.WalkSteps.{IsWalk}
use Rattle.si_tree.proofs.tree.Tree.renumbering.Given as goal

abbrev pub invariant-loop-visit : goal.invariant-loop-visit
invariant-loop-visit l = IsWalk l.self l.left.items l.numbers.items l.nodes.items l.next

abbrev pub decreases-loop-visit : goal.decreases-loop-visit
decreases-loop-visit l = length l.self.nodes - length l.nodes.items
