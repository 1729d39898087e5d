use Rattle.std.proofs.Common.{◌≡◌, take_all, sym, subst, arith, Some}
use Rattle.si_defs.proofs.ListLaws.{all_get}
use Rattle.si_unify.specs.Solving.{CellIsInRange, IsBinding}
use Rattle.si_unify.specs.Spots.{cell_slot}
use Rattle.si_unify.proofs.Places.{value_holds}
use Rattle.si_fit.specs.Occurring.{Avoids}
use Rattle.si_fit.proofs.EndLaws.{no_cell}
use Rattle.si_fit.proofs.OccurringLaws.{avoids_more, symbol_avoids, unbound_avoids, itself_occurs, value_searched, one_occurs}
use Rattle.si_fit.proofs.occurring.+occurring.Goals as goal

pub search_cell-returns-in_default-clause-found : goal.search_cell-returns-in_default-clause-found
search_cell-returns-in_default-clause-found t c = symbol_avoids c.args.slots.now c.args.trail.now.pairs c.args.slot c.args.cell (sym c.in_default.ensures)

pub search_cell-returns-then-other-slot-clause-found : goal.search_cell-returns-then-other-slot-clause-found
search_cell-returns-then-other-slot-clause-found t c =
    itself_occurs c.args.slots.now c.args.trail.now.pairs c.args.slot c.args.cell c.requires.range (sym (subst (λ n. Some n ≡ cell_slot c.args.slots.now c.args.cell) c.if-other-slot.true c.in-Some.ensures))

pub search_cell-returns-in_default-get-clause-found : goal.search_cell-returns-in_default-get-clause-found
search_cell-returns-in_default-get-clause-found t c =
    unbound_avoids c.args.slots.now c.args.trail.now.pairs c.args.slot c.args.cell c.in-Some.other (sym c.in-Some.ensures) c.if-other-slot.false (sym c.in_default-get.ensures)

pub search_cell-search_deep-requires : goal.search_cell-search_deep-requires
search_cell-search_deep-requires t c = (
  omega (arith, c.decreases, c.if-budget-eq0.false),
  ((value_holds (IsBinding c.args.slots.now) c.args.trail.now.pairs c.in-Some.other c.in-Some-get.value.now c.requires.bindings (sym c.in-Some-get.ensures)).in_range, c.requires.bindings),
)

pub search_cell-returns-clause-found : goal.search_cell-returns-clause-found
search_cell-returns-clause-found t c =
    value_searched c.args.slots.now c.args.trail.now.pairs c.args.slot c.args.cell c.in-Some.other c.in-Some-get.value.now c.search_deep.result c.requires.range (sym c.in-Some.ensures) c.if-other-slot.false (sym c.in-Some-get.ensures) c.requires.bindings c.search_deep.ensures.found

pub search_deep-search_cell-requires : goal.search_deep-search_cell-requires
search_deep-search_cell-requires t c = (
  omega (arith, c.decreases, c.loop-cell.invariant.fewer),
  (all_get (CellIsInRange c.args.slots.now) c.args.cells.now c.loop-cell.cell-index no_cell c.requires.range c.loop-cell-test.true, c.requires.bindings),
)

pub search_deep-loop-cell-preserved : goal.search_deep-loop-cell-preserved
search_deep-loop-cell-preserved t c = record {
  avoids = avoids_more c.args.slots.now c.args.trail.now.pairs c.args.slot c.args.cells.now c.loop-cell.cell-index c.loop-cell-test.true c.loop-cell.invariant.avoids c.in-Absent.ensures.found;
  fewer = omega (arith, c.search_cell.ensures.fewer, c.loop-cell.invariant.fewer);
}

pub search_deep-returns-in-Present-clause-found : goal.search_deep-returns-in-Present-clause-found
search_deep-returns-in-Present-clause-found t c =
    one_occurs c.args.slots.now c.args.trail.now.pairs c.args.slot c.args.cells.now c.loop-cell.cell-index c.loop-cell-test.true c.in-Present.ensures.found

pub search_deep-returns-clause-found : goal.search_deep-returns-clause-found
search_deep-returns-clause-found t c =
    subst (Avoids c.args.slots.now c.args.trail.now.pairs c.args.slot) (take_all _ _ (omega (arith, c.loop-cell-test.false))) c.loop-cell.invariant.avoids
