use Rattle.std.proofs.Common.{get_or, sym, ◌∙◌}
use Rattle.si_form.proofs.DownLaws.{no_cell}
use Rattle.si_form.proofs.RenamingLaws.{symbol_stays, first_inside, variable_changes, renamed_begins, renamed_more, renamed_ends}
use Rattle.si_form.proofs.direct.renamed.Goals as goal

pub loop-cell-init : goal.loop-cell-init
loop-cell-init c = renamed_begins c.args.slots.now c.args.trail.now.pairs c.requires.can c.args.cells.now c.in_ok-new.new.items c.in_ok-new.ensures.items

pub loop-cell-preserved-in_default : goal.loop-cell-preserved-in_default
loop-cell-preserved-in_default c =
    renamed_more c.args.slots.now c.args.trail.now.pairs c.requires.can c.args.cells.now c.loop-cell.new.items _ c.loop-cell.cell-index (get_or c.args.cells.now c.loop-cell.cell-index no_cell) c.loop-cell-test.true c.loop-cell.invariant
    (λ f general. symbol_stays c.args.slots.now c.args.trail.now.pairs c.requires.can (get_or c.args.cells.now c.loop-cell.cell-index no_cell) (sym c.in_default.is ∙ c.slot_of.ensures) f)
    c.in_ok-push.ensures.items

pub cell_of-requires : goal.cell_of-requires
cell_of-requires c =
    first_inside c.args.slots.now c.args.trail.now.pairs c.requires.can c.args.cells.now c.requires.range c.requires.unbound c.loop-cell.cell-index c.in-Some.slot c.first_of-first.result
    c.loop-cell-test.true (sym c.in-Some.is ∙ c.slot_of.ensures) c.first_of-first.ensures

pub loop-cell-preserved : goal.loop-cell-preserved
loop-cell-preserved c =
    renamed_more c.args.slots.now c.args.trail.now.pairs c.requires.can c.args.cells.now c.loop-cell.new.items _ c.loop-cell.cell-index c.cell_of.result c.loop-cell-test.true c.loop-cell.invariant
    (λ f general.
    c.cell_of.ensures
    ∙ variable_changes c.args.slots.now c.args.trail.now.pairs c.requires.can c.args.cells.now c.requires.range c.requires.unbound c.loop-cell.cell-index c.in-Some.slot c.first_of-first.result
    c.loop-cell-test.true (sym c.in-Some.is ∙ c.slot_of.ensures) c.first_of-first.ensures f general)
    c.in_ok-push-2.ensures.items

pub returns : goal.returns
returns c = renamed_ends c.args.slots.now c.args.trail.now.pairs c.requires.can c.args.cells.now c.loop-cell.new.items c.loop-cell.cell-index c.loop-cell-test.false c.loop-cell.invariant
