use Rattle.std.proofs.Common.{refl, ap, subst, arith, ◌∷◌, [], length}
use Rattle.std.proofs.lemmas.List.{drop_all}
use Rattle.si_tree.specs.Numbers.{AreBelow, indicators_in}
use Rattle.si_tree.proofs.NumberLaws.{IsNoting, noting_begins, noting_more, noting_ends, skips, meets}
use Rattle.si_tree.proofs.numbers.note_cells.Goals as goal

pub loop-cell-init : goal.loop-cell-init
loop-cell-init c = noting_begins _ _ _ c.requires.known

pub loop-cell-preserved-in_default : goal.loop-cell-preserved-in_default
loop-cell-preserved-in_default c =
    subst (IsNoting c.args.numbers.now.items c.args.first (indicators_in c.args.cells.now) c.loop-cell.numbers.items c.loop-cell.next)
    (skips c.args.cells.now c.loop-cell.cell-index _ c.loop-cell-test.true c.in_default.not-Ind)
    c.loop-cell.invariant

pub note-requires : goal.note-requires
note-requires c =
    (subst (AreBelow (length c.loop-cell.numbers.items)) (meets c.args.cells.now c.loop-cell.cell-index _ c.in-Ind.indicator c.loop-cell-test.true c.in-Ind.is) c.loop-cell.invariant.known).0

pub overflow_add-next : goal.overflow_add-next
overflow_add-next c =
    let here = ap length (meets c.args.cells.now c.loop-cell.cell-index _ c.in-Ind.indicator c.loop-cell-test.true c.in-Ind.is) in
    omega (arith, here, c.loop-cell.invariant.count, c.requires.room)

pub loop-cell-preserved : goal.loop-cell-preserved
loop-cell-preserved c =
    noting_more c.args.numbers.now.items c.args.first (indicators_in c.args.cells.now) c.loop-cell.numbers.items c.loop-cell.next (c.in-Ind.indicator ∷ []) _ _ _
    (subst (IsNoting c.args.numbers.now.items c.args.first (indicators_in c.args.cells.now) c.loop-cell.numbers.items c.loop-cell.next)
    (meets c.args.cells.now c.loop-cell.cell-index _ c.in-Ind.indicator c.loop-cell-test.true c.in-Ind.is)
    c.loop-cell.invariant)
    c.note.ensures refl

pub returns-clause-noted : goal.returns-clause-noted
returns-clause-noted c =
    (noting_ends _ _ _ _ _ _ c.loop-cell.invariant (ap indicators_in (drop_all c.loop-cell.cell-index c.args.cells.now (omega (arith, c.loop-cell-test.false))))).0

pub returns-clause-next : goal.returns-clause-next
returns-clause-next c =
    (noting_ends _ _ _ _ _ _ c.loop-cell.invariant (ap indicators_in (drop_all c.loop-cell.cell-index c.args.cells.now (omega (arith, c.loop-cell-test.false))))).1
