use Rattle.si_lex.proofs.OpenBracketLaws.{few}
use Rattle.si_lex.proofs.brackets.OpenBrackets.after.Goals as goal

pub returns-in_default-clause-few : goal.returns-in_default-clause-few
returns-in_default-clause-few c = few c.self.inside.digits
