use Rattle.std.proofs.Common.{◌≡◌, ◌++◌}
use Rattle.si_tree.proofs.rights.joined.Given as goal

abbrev pub invariant-loop-pair : goal.invariant-loop-pair
invariant-loop-pair l = l.both ++ l.pair-iterator ≡ l.fn.first ++ l.second
