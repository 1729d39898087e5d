use Rattle.std.proofs.Common.{subst}
use Rattle.std.specs.Prelude.{None, option_map}
use Rattle.std.proofs.lemmas.Result.{IfOk-weaker}
use Rattle.si_lex.specs.Lexemes.{tokens_of}
use Rattle.si_term.specs.Meaning.{name_of}
use Rattle.si_parse.specs.GrammarRules.{IsNameToken}
use Rattle.si_parse.specs.Reading.{ReadsAll, ReadsText}
use Rattle.si_parse.proofs.ReadingLaws.{text_read, text_none}
use Rattle.si_parse.specs.ReadBack.{ReadsBackName}
use Rattle.si_parse.proofs.ReadBackAnswers.{name_back}
use Rattle.si_parse.proofs.text.read_name.Goals as goal

pub returns-in-End-clause-read : goal.returns-in-End-clause-read
returns-in-End-clause-read c =
    IfOk-weaker c.whole_name.result (ReadsAll name_of IsNameToken (tokens_of c.as_slice.result.now)) (ReadsText name_of IsNameToken c.args.bytes.now)
    (λ found read. text_read name_of IsNameToken c.args.bytes.now c.in_ok-lexing.lexing c.in_ok-lexing.ensures.read c.in-End.is found
    (subst (λ ts. ReadsAll name_of IsNameToken (tokens_of ts) found) c.as_slice.ensures.value read)) c.whole_name.ensures

pub returns-in-End-clause-back : goal.returns-in-End-clause-back
returns-in-End-clause-back c =
    IfOk-weaker c.whole_name.result (ReadsAll name_of IsNameToken (tokens_of c.as_slice.result.now)) (λ read. ReadsBackName c.args.bytes.now (option_map name_of read))
    (λ found read. name_back c.args.bytes.now found (text_read name_of IsNameToken c.args.bytes.now c.in_ok-lexing.lexing c.in_ok-lexing.ensures.read c.in-End.is found
    (subst (λ ts. ReadsAll name_of IsNameToken (tokens_of ts) found) c.as_slice.ensures.value read))) c.whole_name.ensures

pub returns-clause-read : goal.returns-clause-read
returns-clause-read c = text_none name_of IsNameToken c.args.bytes.now c.in_ok-lexing.lexing c.in_ok-lexing.ensures.read c.in_default.not-End

pub returns-clause-back : goal.returns-clause-back
returns-clause-back c = name_back c.args.bytes.now None (text_none name_of IsNameToken c.args.bytes.now c.in_ok-lexing.lexing c.in_ok-lexing.ensures.read c.in_default.not-End)
