use Rattle.std.proofs.Common.{◌≡◌}
use Rattle.si_prune.specs.Pruning.{part_in}
use Rattle.si_prune.proofs.finding.walked_to.Given as goal

abbrev pub invariant-loop-pair : goal.invariant-loop-pair
invariant-loop-pair l = part_in l.bindings l.number ≡ part_in l.pair-iterator l.number
