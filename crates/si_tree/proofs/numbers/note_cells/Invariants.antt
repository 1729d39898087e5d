use Rattle.std.proofs.Common.{drop}
use Rattle.si_tree.specs.Numbers.{indicators_in}
use Rattle.si_tree.proofs.NumberLaws.{IsNoting}
use Rattle.si_tree.proofs.numbers.note_cells.Given as goal

abbrev pub invariant-loop-cell : goal.invariant-loop-cell
invariant-loop-cell l = IsNoting l.fn.numbers.items l.first (indicators_in l.cells) l.numbers.items l.next (indicators_in (drop l.cell-index l.cells))
