use Rattle.std.proofs.Common.{◌≡◌, max, drop}
use Rattle.si_tree.specs.Rights.{beyond_all}
use Rattle.si_tree.proofs.rights.beyond_cells.Given as goal

abbrev pub invariant-loop-cell : goal.invariant-loop-cell
invariant-loop-cell l = beyond_all l.cells ≡ max l.bound (beyond_all (drop l.cell-index l.cells))
