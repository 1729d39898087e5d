use Rattle.std.proofs.Common.{ap, subst, length, ◌∙◌, arith}
use Rattle.std.proofs.lemmas.Result.{IfOk-weaker, on_err_weaker}
use Rattle.si_lex.specs.Lexemes.{tokens_of}
use Rattle.si_parse.proofs.ReadingLaws.{text_few}
use Rattle.si_session.specs.Commands.{Commands}
use Rattle.si_session.proofs.CommandLaws.{line_read, blank_tokens}
use Rattle.si_session.proofs.command.read_command.Goals as goal

pub command_of-requires : goal.command_of-requires
command_of-requires c =
    omega (arith, ap length c.as_slice.ensures.value, text_few c.args.line.now c.in_ok-lexing.lexing c.in_ok-lexing.ensures.read, c.requires)

pub returns-clause-read : goal.returns-clause-read
returns-clause-read c =
    let lexing = c.in_ok-lexing.lexing in
    IfOk-weaker c.command_of.result _ _
    (λ command h. line_read c.args.line.now lexing c.in_ok-lexing.ensures.read command (subst (λ ts. Commands (tokens_of ts) lexing.why command) c.as_slice.ensures.value h))
    c.command_of.ensures.read

pub returns-clause-refused : goal.returns-clause-refused
returns-clause-refused c =
    on_err_weaker c.command_of.result
    (λ some b. some (ap tokens_of c.as_slice.ensures.value ∙ (blank_tokens c.args.line.now c.in_ok-lexing.lexing c.in_ok-lexing.ensures.read b).1))
    c.command_of.ensures.refused
