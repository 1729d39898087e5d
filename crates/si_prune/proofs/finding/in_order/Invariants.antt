use Rattle.std.proofs.Common.{◌≡◌, ◌++◌}
use Rattle.si_prune.proofs.finding.in_order.Given as goal

abbrev pub invariant-loop-pair : goal.invariant-loop-pair
invariant-loop-pair l = l.order.items ++ l.pair-iterator ≡ l.bindings
