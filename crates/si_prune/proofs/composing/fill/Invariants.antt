use Rattle.std.proofs.Common.{◌≡◌, ◌++◌, drop}
use Rattle.si_prune.specs.Pruning.{filled}
use Rattle.si_prune.proofs.composing.fill.Given as goal

abbrev pub invariant-loop-cell : goal.invariant-loop-cell
invariant-loop-cell l =
    l.draft.items ++ filled l.bindings (drop l.cell-index l.right) ≡ l.fn.draft.items ++ filled l.bindings l.right
