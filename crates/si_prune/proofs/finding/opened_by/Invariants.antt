use Rattle.std.proofs.Common.{◌≡◌, ◌++◌}
use Rattle.si_tree.specs.Numbers.{rights_in}
use Rattle.si_prune.proofs.finding.opened_by.Given as goal

abbrev pub invariant-loop-pair : goal.invariant-loop-pair
invariant-loop-pair l =
    l.opened.items ++ rights_in l.pair-iterator ≡ rights_in l.bindings
