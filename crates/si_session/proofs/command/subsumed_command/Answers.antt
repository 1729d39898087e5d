use Rattle.std.proofs.Common.{subst}
use Rattle.std.specs.Prelude.{IfSome}
use Rattle.si_defs.specs.Clauses.{AreSoundLiterals}
use Rattle.si_defs.specs.Grammar.{IsFormula}
use Rattle.si_lex.specs.Lexemes.{tokens_of}
use Rattle.si_parse.specs.Meaning.{literals_of}
use Rattle.si_parse.specs.Reading.{ReadsAll}
use Rattle.si_session.proofs.CommandLaws.{subsumed_wrong, subsumed_read}
use Rattle.si_session.proofs.command.subsumed_command.Goals as goal

pub returns-in-Some : goal.returns-in-Some
returns-in-Some c =
    let read = c.in_ok-formula.ensures in
    subsumed_read (tokens_of c.args.tokens.now) c.in-Some.formula (subst (ReadsAll literals_of IsFormula (tokens_of c.args.tokens.now)) c.in-Some.is read.read)
    (subst (λ read. IfSome read (λ ls. AreSoundLiterals (literals_of ls))) c.in-Some.is read.sound)

pub returns-in-None : goal.returns-in-None
returns-in-None c =
    subsumed_wrong (tokens_of c.args.tokens.now) (subst (ReadsAll literals_of IsFormula (tokens_of c.args.tokens.now)) c.in-None.is c.in_ok-formula.ensures.read)
