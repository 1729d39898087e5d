use Rattle.std.proofs.Common.{refl, arith, subst}
use Rattle.si_form.specs.Matching.{StepsOnCell}
use Rattle.si_form.proofs.Agreeing.{going_at_first, going_inside, passed_within, going_on, going_wrong, going_ends}
use Rattle.si_form.proofs.matching.matches.Goals as goal

pub loop-cell-init : goal.loop-cell-init
loop-cell-init c = going_at_first _ _ _ _ c.requires.none

pub step-requires-clause-inside : goal.step-requires-clause-inside
step-requires-clause-inside c = going_inside _ _ _ _ _ _ c.loop-cell.invariant c.requires.pattern c.requires.target c.requires.numbered c.loop-cell-test.true

pub returns-in_default : goal.returns-in_default
returns-in_default c =
    going_wrong _ _ _ _ _ _ _ _ c.loop-cell.invariant c.requires.numbered c.loop-cell-test.true refl
    (subst (StepsOnCell c.args.owner _ c.args.target.now c.loop-cell.at c.loop-cell.images.items c.step.new.images.items) c.in_default.is c.in_ok-span.ensures)

pub overflow_add-at : goal.overflow_add-at
overflow_add-at c =
    let inside = going_inside _ _ _ _ _ _ c.loop-cell.invariant c.requires.pattern c.requires.target c.requires.numbered c.loop-cell-test.true in
    let within =
    passed_within _ _ _ _ _ _ _
    (subst (StepsOnCell c.args.owner _ c.args.target.now c.loop-cell.at c.loop-cell.images.items c.step.new.images.items) c.in-Some.is c.in_ok-span.ensures) inside in
    omega (arith, within, c.well_formed)

pub loop-cell-preserved : goal.loop-cell-preserved
loop-cell-preserved c =
    let inside = going_inside _ _ _ _ _ _ c.loop-cell.invariant c.requires.pattern c.requires.target c.requires.numbered c.loop-cell-test.true in
    going_on _ _ _ _ _ _ _ _ _ c.loop-cell.invariant c.loop-cell-test.true inside refl
    (subst (StepsOnCell c.args.owner _ c.args.target.now c.loop-cell.at c.loop-cell.images.items c.step.new.images.items) c.in-Some.is c.in_ok-span.ensures)

pub returns : goal.returns
returns c = going_ends _ _ _ _ _ _ c.loop-cell.invariant c.requires.numbered (omega (arith, c.loop-cell-test.false))
