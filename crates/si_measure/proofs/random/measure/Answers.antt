use Rattle.std.proofs.lemmas.Result.{IfOk-weaker}
use Rattle.si_measure.specs.Answers.{SolvesTerms}
use Rattle.si_measure.proofs.random.measure.Goals as goal

pub returns : goal.returns
returns c =
    IfOk-weaker c.solve_often.result _ SolvesTerms
    (λ measured h. record {
      variables = _;
      left = c.in_ok-terms.terms.left;
      right = c.in_ok-terms.terms.right;
      solves = h;
    })
    c.solve_often.ensures
