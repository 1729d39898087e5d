use Rattle.si_tree.proofs.NumberLaws.{below_at}
use Rattle.si_tree.proofs.numbers.renumber_cells.Goals as goal

pub renumbered_cell-requires : goal.renumbered_cell-requires
renumbered_cell-requires c = below_at _ c.args.cells.now c.loop-cell.cell-index _ c.loop-cell-test.true c.requires
