use Rattle.std.proofs.Common.{◌≡◌, ◌==◌}
use Rattle.std.specs.List.{list_any}
use Rattle.si_tree.specs.Numbers.{rights_in}
use Rattle.si_prune.proofs.finding.is_on_right.Given as goal

abbrev pub invariant-loop-pair : goal.invariant-loop-pair
invariant-loop-pair l =
    list_any (λ n. n == l.number) (rights_in l.bindings) ≡ list_any (λ n. n == l.number) (rights_in l.pair-iterator)
