use Rattle.std.proofs.Common.{◌∙◌, ap, ◌+◌, ◌∷◌, arith}
use Rattle.si_lex.specs.OpenBrackets.{bracket_of_digit, brackets_in}
use Rattle.si_lex.proofs.OpenBracketLaws.{few, one_digit_more}
use Rattle.si_lex.proofs.brackets.OpenBrackets.opened.Goals as goal

pub returns-clause-more : goal.returns-clause-more
returns-clause-more c =
    let twice = c.in_ok-twice.ensures in
    ap (λ n. brackets_in (n + c.args.digit)) twice.1
    ∙ one_digit_more c.self.inside.digits c.args.digit c.self.invariant.0 c.requires (omega (arith, twice.0, c.requires))
    ∙ ap (λ bs. bracket_of_digit c.args.digit ∷ bs) c.self.view_is

pub returns-clause-few : goal.returns-clause-few
returns-clause-few c = few (c.in_ok-twice.twice + c.args.digit)
