use Rattle.std.proofs.Common.{ap, ◌∷◌, ◌∙◌}
use Rattle.si_lex.specs.Lexemes.{token_of, tokens_of}
use Rattle.si_session.proofs.CommandLaws.{sample_none}
use Rattle.si_session.proofs.command.sample_command.Goals as goal

pub returns-in-Some-2 : goal.returns-in-Some-2
returns-in-Some-2 c =
    let first = token_of c.in-Some.first.now in
    sample_none (tokens_of c.args.tokens.now) first (token_of c.in-Some-split_first.second.now) (tokens_of c.in-Some-split_first.others.now) c.in-Some-numeral_of-2.count
    (ap tokens_of c.in-Some.ensures.cases.0 ∙ ap (λ l. first ∷ tokens_of l) c.in-Some-split_first.ensures.cases.0)
    c.in-Some-numeral_of-2.ensures.found.1 c.if-count-gt0.false
