use Rattle.std.proofs.Common.{◌≡◌, ◌++◌, drop, map}
use Rattle.si_mscg.specs.Generalising.{spanless}
use Rattle.si_prune.proofs.composing.push_draft.Given as goal

abbrev pub invariant-loop-cell : goal.invariant-loop-cell
invariant-loop-cell l =
    l.draft.items ++ map spanless (drop l.cell-index l.cells) ≡ l.fn.draft.items ++ map spanless l.cells
