use Rattle.std.proofs.Common.{◌≤◌, ◌^◌, take}
use Rattle.si_tree.specs.HashedHeads.{AreVariablesBelow}
use Rattle.si_tree.proofs.hashed.beyond_variables.Given as goal

abbrev pub invariant-loop-head : goal.invariant-loop-head
invariant-loop-head l = AreVariablesBelow l.vars (take l.head-index l.heads) × (l.vars ≤ 2 ^ 32)
