use Rattle.std.proofs.Common.{subst}
use Rattle.si_lex.specs.Lexemes.{tokens_of}
use Rattle.si_session.specs.Commands.{ReadsQuery}
use Rattle.si_session.proofs.CommandLaws.{query_wrong, query_read}
use Rattle.si_session.proofs.command.query_command.Goals as goal

pub returns-in-Some : goal.returns-in-Some
returns-in-Some c =
    query_read c.args.relation (tokens_of c.args.tokens.now) c.in-Some.pattern (subst (ReadsQuery (tokens_of c.args.tokens.now)) c.in-Some.is c.in_ok-pattern.ensures)

pub returns-in-None : goal.returns-in-None
returns-in-None c =
    query_wrong c.args.relation (tokens_of c.args.tokens.now) (subst (ReadsQuery (tokens_of c.args.tokens.now)) c.in-None.is c.in_ok-pattern.ensures)
