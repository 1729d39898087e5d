use Rattle.std.proofs.Common.{◌<◌, ◌+◌}
use Rattle.si_base_tests.proofs.Postings.{AllStored}
use Rattle.si_base_tests.proofs.leaves.fill.Given as goal

abbrev pub invariant-loop-number : goal.invariant-loop-number
invariant-loop-number l = AllStored l.tree (λ p. 40 < p.clause + l.number)
