use Rattle.std.proofs.Common.{◌≡◌, take}
use Rattle.si_tree.proofs.hashed.hashed.Given as goal

abbrev pub invariant-loop-head : goal.invariant-loop-head
invariant-loop-head l = l.set.keys ≡ take l.head-index l.heads
