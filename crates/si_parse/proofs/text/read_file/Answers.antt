use Rattle.std.proofs.Common.{subst}
use Rattle.std.specs.Prelude.{None}
use Rattle.std.proofs.lemmas.Result.{IfOk-weaker}
use Rattle.si_lex.specs.Lexemes.{tokens_of}
use Rattle.si_parse.specs.GrammarRules.{IsFileToken}
use Rattle.si_parse.specs.Reading.{ReadsAll, ReadsText}
use Rattle.si_parse.proofs.ReadingLaws.{text_read, text_none}
use Rattle.si_parse.specs.ReadBack.{ReadsBackFile}
use Rattle.si_parse.proofs.ReadBackAnswers.{file_back}
use Rattle.si_parse.proofs.text.read_file.Goals as goal

pub returns-in-End-clause-read : goal.returns-in-End-clause-read
returns-in-End-clause-read c =
    IfOk-weaker c.whole_file.result (ReadsAll (λ t. t) IsFileToken (tokens_of c.as_slice.result.now)) (ReadsText (λ t. t) IsFileToken c.args.bytes.now)
    (λ found read. text_read (λ t. t) IsFileToken c.args.bytes.now c.in_ok-lexing.lexing c.in_ok-lexing.ensures.read c.in-End.is found
    (subst (λ ts. ReadsAll (λ t. t) IsFileToken (tokens_of ts) found) c.as_slice.ensures.value read)) c.whole_file.ensures

pub returns-in-End-clause-back : goal.returns-in-End-clause-back
returns-in-End-clause-back c =
    IfOk-weaker c.whole_file.result (ReadsAll (λ t. t) IsFileToken (tokens_of c.as_slice.result.now)) (λ read. ReadsBackFile c.args.bytes.now read)
    (λ found read. file_back c.args.bytes.now found (text_read (λ t. t) IsFileToken c.args.bytes.now c.in_ok-lexing.lexing c.in_ok-lexing.ensures.read c.in-End.is found
    (subst (λ ts. ReadsAll (λ t. t) IsFileToken (tokens_of ts) found) c.as_slice.ensures.value read))) c.whole_file.ensures

pub returns-clause-read : goal.returns-clause-read
returns-clause-read c = text_none (λ t. t) IsFileToken c.args.bytes.now c.in_ok-lexing.lexing c.in_ok-lexing.ensures.read c.in_default.not-End

pub returns-clause-back : goal.returns-clause-back
returns-clause-back c = file_back c.args.bytes.now None (text_none (λ t. t) IsFileToken c.args.bytes.now c.in_ok-lexing.lexing c.in_ok-lexing.ensures.read c.in_default.not-End)
