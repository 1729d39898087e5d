use Rattle.std.proofs.Common.{ap}
use Rattle.std.proofs.lemmas.Result.{IfOk-weaker}
use Rattle.si_lex.specs.Lexemes.{token_of, tokens_of}
use Rattle.si_session.proofs.CommandLaws.{query_other, query_rest}
use Rattle.si_session.proofs.command.asked.Goals as goal

pub returns-in_default-kind_of : goal.returns-in_default-kind_of
returns-in_default-kind_of c =
    query_other (tokens_of c.args.tokens.now) (token_of c.in-Some.word.now) (tokens_of c.in-Some.rest.now) (ap tokens_of c.in-Some.ensures.cases.0) c.in_default-kind_of.ensures.none

pub returns : goal.returns
returns c =
    IfOk-weaker c.whole_pattern.result _ _
    (λ read. query_rest (tokens_of c.args.tokens.now) (token_of c.in-Some.word.now) (tokens_of c.in-Some.rest.now) c.in-Some-kind_of.kind read
    (ap tokens_of c.in-Some.ensures.cases.0) c.in-Some-kind_of.ensures.found)
    c.whole_pattern.ensures
