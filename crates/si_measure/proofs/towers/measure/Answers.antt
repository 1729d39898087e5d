use Rattle.std.proofs.Common.{◌∙◌, map}
use Rattle.std.proofs.lemmas.Result.{IfOk-weaker}
use Rattle.si_measure.specs.Systems.{equations_of, AreEquationSides}
use Rattle.si_measure.specs.Answers.{SolvesShape}
use Rattle.si_measure.proofs.Adding.{under_row}
use Rattle.si_measure.proofs.Ranges.{sides_have_slots}
use Rattle.si_measure.proofs.towers.measure.Goals as goal

pub returns : goal.returns
returns c =
    let equations = equations_of c.args.shape c.args.size in
    let all = c.put_shape.new.sides in
    let left = c.in_ok-left.left in
    let right = c.in_ok-right.right in
    let sides : AreEquationSides equations left right =
    record {
      lefts = c.in_ok-left.ensures ∙ under_row 0 all.left c.new.result (map (λ e. e.left) equations) c.new.ensures c.in_ok-put_shape.ensures.left;
      rights = c.in_ok-right.ensures ∙ under_row 0 all.right c.new-2.result (map (λ e. e.right) equations) c.new-2.ensures c.in_ok-put_shape.ensures.right;
    } in
    IfOk-weaker c.solve_often.result _ (SolvesShape c.args.shape c.args.size)
    (λ measured h. record { left = left; right = right; sides = sides; slots = sides_have_slots c.args.shape c.args.size left right sides; solves = h })
    c.solve_often.ensures
