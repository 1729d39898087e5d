use Rattle.std.proofs.Common.{◌≡◌}
use Rattle.si_tree.specs.Rights.{head_in}
use Rattle.si_tree.proofs.rights.head_at.Given as goal

abbrev pub invariant-loop-pair : goal.invariant-loop-pair
invariant-loop-pair l = head_in l.bindings l.indicator ≡ head_in l.pair-iterator l.indicator
