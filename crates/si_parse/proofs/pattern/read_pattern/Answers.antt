use Rattle.std.proofs.Common.{length, ap, subst, arith}
use Rattle.std.specs.Prelude.{None, option_map}
use Rattle.std.proofs.lemmas.Result.{IfOk-weaker}
use Rattle.si_term.specs.Meaning.{pattern_of}
use Rattle.si_parse.specs.ReadBack.{ReadsBackTerm, ReadsBackEntry}
use Rattle.si_parse.proofs.ReadBackAnswers.{term_back, entry_back}
use Rattle.si_lex.specs.Lexemes.{tokens_of}
use Rattle.si_parse.specs.Reading.{ReadsWhole, ReadsPattern}
use Rattle.si_parse.proofs.ReadingLaws.{text_few}
use Rattle.si_parse.proofs.PatternLaws.{whole_read, stopped_read}
use Rattle.si_parse.proofs.pattern.read_pattern.Goals as goal

pub whole_pattern-requires : goal.whole_pattern-requires
whole_pattern-requires c =
    omega (arith, ap length c.as_slice.ensures.value, text_few c.args.bytes.now c.in_ok-lexing.lexing c.in_ok-lexing.ensures.read, c.requires)

pub returns-in-End-clause-read : goal.returns-in-End-clause-read
returns-in-End-clause-read c =
    IfOk-weaker c.whole_pattern.result (ReadsWhole (tokens_of c.as_slice.result.now) c.args.kind) (ReadsPattern c.args.bytes.now c.args.kind)
    (λ found read. whole_read c.args.bytes.now c.args.kind c.in_ok-lexing.lexing c.in_ok-lexing.ensures.read c.in-End.is found
    (subst (λ ts. ReadsWhole (tokens_of ts) c.args.kind found) c.as_slice.ensures.value read)) c.whole_pattern.ensures

pub returns-in-End-clause-back : goal.returns-in-End-clause-back
returns-in-End-clause-back c =
    λ of_term.
    IfOk-weaker c.whole_pattern.result (ReadsWhole (tokens_of c.as_slice.result.now) c.args.kind) (λ read. ReadsBackTerm c.args.bytes.now (option_map pattern_of read))
    (λ found read. term_back c.args.bytes.now found
    (subst (λ kind. ReadsPattern c.args.bytes.now kind found) of_term
    (whole_read c.args.bytes.now c.args.kind c.in_ok-lexing.lexing c.in_ok-lexing.ensures.read c.in-End.is found
    (subst (λ ts. ReadsWhole (tokens_of ts) c.args.kind found) c.as_slice.ensures.value read)))) c.whole_pattern.ensures

pub returns-in-End-clause-entry_back : goal.returns-in-End-clause-entry_back
returns-in-End-clause-entry_back c =
    λ of_term.
    IfOk-weaker c.whole_pattern.result (ReadsWhole (tokens_of c.as_slice.result.now) c.args.kind) (λ read. ReadsBackEntry c.args.bytes.now (option_map pattern_of read))
    (λ found read. entry_back c.args.bytes.now found
    (subst (λ kind. ReadsPattern c.args.bytes.now kind found) of_term
    (whole_read c.args.bytes.now c.args.kind c.in_ok-lexing.lexing c.in_ok-lexing.ensures.read c.in-End.is found
    (subst (λ ts. ReadsWhole (tokens_of ts) c.args.kind found) c.as_slice.ensures.value read)))) c.whole_pattern.ensures

pub returns-clause-read : goal.returns-clause-read
returns-clause-read c = stopped_read c.args.bytes.now c.args.kind c.in_ok-lexing.lexing c.in_ok-lexing.ensures.read c.in_default.not-End

pub returns-clause-back : goal.returns-clause-back
returns-clause-back c =
    λ of_term. term_back c.args.bytes.now None
    (subst (λ kind. ReadsPattern c.args.bytes.now kind None) of_term
    (stopped_read c.args.bytes.now c.args.kind c.in_ok-lexing.lexing c.in_ok-lexing.ensures.read c.in_default.not-End))

pub returns-clause-entry_back : goal.returns-clause-entry_back
returns-clause-entry_back c =
    λ of_term. entry_back c.args.bytes.now None
    (subst (λ kind. ReadsPattern c.args.bytes.now kind None) of_term
    (stopped_read c.args.bytes.now c.args.kind c.in_ok-lexing.lexing c.in_ok-lexing.ensures.read c.in_default.not-End))
