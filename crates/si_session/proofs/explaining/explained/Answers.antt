use Rattle.std.proofs.Common.{length, sym, ap, subst, ◌∙◌, arith}
use Rattle.std.proofs.lemmas.List.{length-map}
use Rattle.std.specs.Prelude.{IfSome}
use Rattle.si_state.specs.Signatures.{numbering}
use Rattle.si_lex.specs.Lexemes.{token_of, tokens_of}
use Rattle.si_parse.proofs.ReadingLaws.{text_few}
use Rattle.si_query.specs.Reading.{ReadsFlat}
use Rattle.si_session.proofs.ExplainingLaws.{explained_line}
use Rattle.si_session.proofs.explaining.explained.Goals as goal

pub read_flat-requires : goal.read_flat-requires
read_flat-requires c =
    omega (
      arith,
      ap length c.as_slice.ensures.value,
      text_few c.args.line.now c.in_ok-lexing.lexing c.in_ok-lexing.ensures.read,
      c.requires,
      ap length c.in-Some.ensures,
      length-map c.in-Some.question.pattern.now token_of,
      length-map c.as_slice.result.now token_of,
    )

pub returns : goal.returns
returns c =
    let question = c.in-Some.question in
    let numbers = numbering c.signature.result.now in
    let pattern = tokens_of question.pattern.now in
    let read : ReadsFlat numbers pattern question.kind c.in-Some-2.query = subst (λ r. IfSome r (ReadsFlat numbers pattern question.kind)) c.in-Some-2.is c.in_ok-query.ensures in
    explained_line c.args.index.now numbers c.signature.ensures.numbers pattern question.kind c.asks_literals-literal.result c.asks_literals-literal.ensures c.in-Some-2.query read
    c.args.line.now c.in_ok-lexing.lexing c.in_ok-lexing.ensures.read question.relation c.in_ok-found.found c.in-End.is (sym (ap tokens_of c.as_slice.ensures.value) ∙ c.in-Some.ensures) c.in_ok-found.ensures
