use Rattle.si_entries.proofs.NumberLaws.{few_met, written_next, written_through}
use Rattle.si_entries.proofs.numbers.write_anew.Goals as goal

pub renumber-requires : goal.renumber-requires
renumber-requires c = few_met c.args.term.now c.loop-cell.cell-index c.loop-cell.met c.loop-cell.cells.items c.loop-cell-test.true c.requires c.loop-cell.invariant

pub loop-cell-preserved : goal.loop-cell-preserved
loop-cell-preserved c =
    written_next c.args.term.now c.loop-cell.cell-index _ c.in_ok-cell.cell c.loop-cell.met c.renumber.new.met c.loop-cell.cells.items c.push.new.self.items
    c.loop-cell-test.true c.loop-cell.invariant c.in_ok-cell.ensures.met c.in_ok-cell.ensures.cell c.in_ok-push.ensures.items

pub returns : goal.returns
returns c = written_through c.args.term.now c.loop-cell.cell-index c.loop-cell.met c.loop-cell.cells.items c.loop-cell-test.false c.loop-cell.invariant
