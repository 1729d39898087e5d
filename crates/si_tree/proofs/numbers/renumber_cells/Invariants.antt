use Rattle.std.proofs.Common.{◌≡◌, take}
use Rattle.si_tree.specs.Numbers.{noted_number, renumbered_cells}
use Rattle.si_tree.proofs.numbers.renumber_cells.Given as goal

abbrev pub invariant-loop-cell : goal.invariant-loop-cell
invariant-loop-cell l = l.buffer.items ≡ renumbered_cells (noted_number l.numbers) (take l.cell-index l.cells)
