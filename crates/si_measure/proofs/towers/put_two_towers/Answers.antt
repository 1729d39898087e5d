use Rattle.std.proofs.Common.{◌-◌, ◌∷◌, [], ◌++◌, ◌∙◌, ap}
use Rattle.si_flat.specs.declared.Owner.TheVariants.{Query, Entry}
use Rattle.si_measure.specs.Rows.{with_argument}
use Rattle.si_measure.specs.Systems.{Equation, variable, doubled, tower}
use Rattle.si_measure.proofs.Adding.{adds_one, adds_then}
use Rattle.si_measure.proofs.towers.put_two_towers.Goals as goal

pub returns : goal.returns
returns c =
    let steps = c.args.steps in
    let n = c.args.size in
    let front = c.put_tower.new.sides in
    let both = c.put_tower-2.new.sides in
    let e : Equation = record { left = variable Query n; right = doubled (steps - 1) (variable Entry n) } in
    adds_then c.args.sides.now both c.add.new.self (tower Query steps n ++ tower Entry steps n) (e ∷ [])
    (adds_then c.args.sides.now front both (tower Query steps n) (tower Entry steps n) c.in_ok-put_tower.ensures c.in_ok-put_tower-2.ensures)
    (
    adds_one both c.add.new.self e
    (c.in_ok-add.ensures.left ∙ ap (with_argument both.left) c.in_ok-last.ensures)
    (c.in_ok-add.ensures.right ∙ ap (with_argument both.right) c.in_ok-other.ensures)
    )
