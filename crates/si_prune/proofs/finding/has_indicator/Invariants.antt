use Rattle.std.proofs.Common.{◌≡◌, ◌==◌, drop}
use Rattle.std.specs.List.{list_any}
use Rattle.si_tree.specs.Numbers.{indicators_in}
use Rattle.si_prune.proofs.finding.has_indicator.Given as goal

abbrev pub invariant-loop-cell : goal.invariant-loop-cell
invariant-loop-cell l =
    list_any (λ n. n == l.number) (indicators_in l.cells) ≡ list_any (λ n. n == l.number) (indicators_in (drop l.cell-index l.cells))
