use Rattle.std.proofs.Common.{sym, ◌∙◌, ap, ◌/◌, ◌∷◌, arith}
use Rattle.si_lex.specs.OpenBrackets.{bracket_of_digit, brackets_in}
use Rattle.si_lex.proofs.OpenBracketLaws.{few, last_digit}
use Rattle.si_lex.proofs.brackets.OpenBrackets.closed.Goals as goal

pub returns-clause-last : goal.returns-clause-last
returns-clause-last c =
    sym c.self.view_is ∙ last_digit c.self.inside.digits c.self.invariant.1 (omega (arith, c.self.invariant.0, c.if-self-eq1.false))
    ∙ ap (λ d. bracket_of_digit d ∷ brackets_in (c.self.inside.digits / 2)) c.if-self-digit.false

pub returns-clause-few : goal.returns-clause-few
returns-clause-few c = few (c.self.inside.digits / 2)
