use Rattle.std.proofs.Common.{length}
use Rattle.si_tree.specs.Reading.{IsNode}
use Rattle.si_base_tests.proofs.leaves.assert_goes.Given as goal

abbrev pub invariant-loop-leaf : goal.invariant-loop-leaf
invariant-loop-leaf g l = IsNode l.tree l.leaf

abbrev pub decreases-loop-leaf : goal.decreases-loop-leaf
decreases-loop-leaf g l = length l.noted.items
