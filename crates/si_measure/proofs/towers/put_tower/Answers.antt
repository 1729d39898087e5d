use Rattle.std.proofs.Common.{◌∷◌, [], suc, sym, ◌∙◌, ap, subst, add-one}
use Rattle.si_flat.specs.Cells.{cells_of}
use Rattle.si_measure.specs.Rows.{with_argument}
use Rattle.si_measure.specs.Systems.{Equation, variable, doubled, tower, AddsEquations}
use Rattle.si_measure.proofs.Adding.{adds_one, adds_then}
use Rattle.si_measure.proofs.towers.put_tower.Goals as goal

pub loop-i-preserved : goal.loop-i-preserved
loop-i-preserved c =
    let owner = c.args.owner in
    let steps = c.args.steps in
    let i = c.loop-i.i in
    let e : Equation = record { left = variable owner (suc i); right = doubled steps (variable owner i) } in
    subst (λ n. AddsEquations c.args.sides.now c.add.new.self (tower owner steps n)) (sym (add-one i))
    (
    adds_then c.args.sides.now c.loop-i.sides c.add.new.self (tower owner steps i) (e ∷ []) c.loop-i.invariant
    (
    adds_one c.loop-i.sides c.add.new.self e
    (
    c.in_ok-add.ensures.left
    ∙ ap (with_argument c.loop-i.sides.left) (c.in_ok-next.ensures ∙ ap (λ n. cells_of (variable owner n)) (add-one i))
    )
    (c.in_ok-add.ensures.right ∙ ap (with_argument c.loop-i.sides.right) c.in_ok-value.ensures)
    )
    )
