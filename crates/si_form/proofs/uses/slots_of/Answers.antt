use Rattle.std.proofs.Common.{sym, ◌∙◌}
use Rattle.std.proofs.Common.{append-nil}
use Rattle.si_form.proofs.UsesLaws.{slots_more}
use Rattle.si_form.proofs.uses.slots_of.Goals as goal

pub loop-cell-preserved-in_default : goal.loop-cell-preserved-in_default
loop-cell-preserved-in_default c =
    sym (append-nil c.loop-cell.used.items)
    ∙ slots_more c.args.slots.now c.args.cells.now c.loop-cell.cell-index _ c.loop-cell.used.items c.loop-cell-test.true c.loop-cell.invariant (sym c.in_default.is ∙ c.slot_of.ensures)

pub loop-cell-preserved : goal.loop-cell-preserved
loop-cell-preserved c =
    c.in_ok-push.ensures.items
    ∙ slots_more c.args.slots.now c.args.cells.now c.loop-cell.cell-index _ c.loop-cell.used.items c.loop-cell-test.true c.loop-cell.invariant (sym c.in-Some.is ∙ c.slot_of.ensures)
