use Rattle.std.proofs.Common.{drop, length, ◌+◌}
use Rattle.si_term.proofs.Results.{on_err}
use Rattle.si_lex.specs.Lexemes.{token_of}
use Rattle.si_lex.specs.Places.{TokenStands}
use Rattle.si_lex.proofs.LexingLaws.{next_at}
use Rattle.si_lex.proofs.token.next_token.Goals as goal

pub returns-in_err-text-in-Some-clause-refused : goal.returns-in_err-text-in-Some-clause-refused
returns-in_err-text-in-Some-clause-refused c =
    let bytes = c.args.bytes.now in
    let start = c.skip_blanks-start.result in
    let lexeme = c.in-Some.lexeme in
    let stands : TokenStands bytes c.args.at = (
      token_of lexeme,
      drop (start + length lexeme.spelling.now) bytes,
      next_at bytes (drop c.args.at bytes) start lexeme c.skip_blanks-start.ensures.behind c.if-start-bytes.false c.in-Some.ensures,
    ) in
    on_err _ stands
