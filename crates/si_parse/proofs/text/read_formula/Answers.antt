use Rattle.std.proofs.Common.{length, ap, subst, arith}
use Rattle.std.proofs.lemmas.Result.{IfOk-weaker}
use Rattle.si_lex.specs.Lexemes.{tokens_of}
use Rattle.si_parse.specs.Meaning.{literals_of}
use Rattle.si_defs.specs.Grammar.{IsFormula}
use Rattle.si_parse.specs.Reading.{ReadsAll, ReadsText}
use Rattle.si_parse.proofs.ReadingLaws.{text_few, text_read, text_none}
use Rattle.si_parse.proofs.text.read_formula.Goals as goal

pub whole_formula-requires : goal.whole_formula-requires
whole_formula-requires c =
    omega (arith, ap length c.as_slice.ensures.value, text_few c.args.bytes.now c.in_ok-lexing.lexing c.in_ok-lexing.ensures.read, c.requires)

pub returns-in-End-clause-read : goal.returns-in-End-clause-read
returns-in-End-clause-read c =
    IfOk-weaker c.whole_formula.result (ReadsAll literals_of IsFormula (tokens_of c.as_slice.result.now)) (ReadsText literals_of IsFormula c.args.bytes.now)
    (λ found read. text_read literals_of IsFormula c.args.bytes.now c.in_ok-lexing.lexing c.in_ok-lexing.ensures.read c.in-End.is found
    (subst (λ ts. ReadsAll literals_of IsFormula (tokens_of ts) found) c.as_slice.ensures.value read)) c.whole_formula.ensures.read

pub returns-clause-read : goal.returns-clause-read
returns-clause-read c = text_none literals_of IsFormula c.args.bytes.now c.in_ok-lexing.lexing c.in_ok-lexing.ensures.read c.in_default.not-End
