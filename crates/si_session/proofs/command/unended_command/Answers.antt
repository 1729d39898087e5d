use Rattle.std.proofs.Common.{ap, sym, subst}
use Rattle.si_lex.specs.Lexemes.{token_of, tokens_of}
use Rattle.si_session.specs.Commands.{Commands}
use Rattle.si_session.specs.declared.command.Command.TheVariants as command
use Rattle.si_session.proofs.CommandLaws.{no_word}
use Rattle.si_session.proofs.command.unended_command.Goals as goal

pub returns-in-None : goal.returns-in-None
returns-in-None c why more =
    subst (λ ts. Commands ts why command.Wrong) (sym (ap tokens_of c.in-Some.ensures.cases.0))
    (no_word (token_of c.in-Some.first.now) (tokens_of c.in-Some.rest.now) why c.in-None.ensures.none)
