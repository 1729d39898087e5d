use Rattle.std.proofs.Common.{◌≡◌, ◌++◌, drop}
use Rattle.si_tree.specs.Numbers.{indicators_in}
use Rattle.si_prune.proofs.finding.push_indicators.Given as goal

abbrev pub invariant-loop-cell : goal.invariant-loop-cell
invariant-loop-cell l =
    l.opened.items ++ indicators_in (drop l.cell-index l.cells) ≡ l.fn.opened.items ++ indicators_in l.cells
