use Rattle.std.proofs.Common.{length, ap, subst, arith}
use Rattle.si_defs.specs.Clauses.{IsSoundClause}
use Rattle.si_lex.specs.Lexemes.{tokens_of}
use Rattle.si_term.specs.Meaning.{clause_of}
use Rattle.si_parse.specs.Meaning.{include_of}
use Rattle.si_parse.specs.Parsing.{IfFound}
use Rattle.si_parse.proofs.ParseReads.{reads_some, reads_none}
use Rattle.si_parse.proofs.ReadingLaws.{item_few, clause_read, include_read, no_item_read}
use Rattle.si_parse.proofs.GrammarBrief.{few_of, clause_of_all, include_of_all, no_item_of_all}
use Rattle.si_parse.proofs.item.next_item.Goals as goal

pub clause-requires : goal.clause-requires
clause-requires c =
    let h = c.in_ok-lexing.ensures.read in
    omega (arith, ap length c.as_slice-tokens.ensures.value, few_of h.brief, item_few c.args.bytes.now c.args.at h.all _ _ _ h.read, c.requires.short)

pub returns-in-Some : goal.returns-in-Some
returns-in-Some c =
    let l = c.in_ok-lexing.lexing in
    let h = c.in_ok-lexing.ensures.read in
    let rest = tokens_of c.in-Some.field-0-1.now in (
      clause_read c.args.bytes.now c.args.at h.all l.start l.end l.why h.read (clause_of c.in-Some.clause) rest
          (clause_of_all h.brief c.as_slice-tokens.ensures.value (reads_some clause_of c.as_slice-tokens.result.now c.in_ok-clause.ensures.read c.in-Some.is)),
      subst (IfFound (λ x. IsSoundClause (clause_of x))) c.in-Some.is c.in_ok-clause.ensures.sound,
    )

pub returns-in-Some-2 : goal.returns-in-Some-2
returns-in-Some-2 c =
    let l = c.in_ok-lexing.lexing in
    let h = c.in_ok-lexing.ensures.read in
    include_read c.args.bytes.now c.args.at h.all l.start l.end l.why h.read (include_of c.in-Some-2.include) (tokens_of c.in-Some-2.field-0-1.now)
    (include_of_all h.brief c.as_slice-tokens.ensures.value (reads_some include_of c.as_slice-tokens.result.now c.in_ok-include.ensures c.in-Some-2.is))

pub returns : goal.returns
returns c =
    let l = c.in_ok-lexing.lexing in
    let h = c.in_ok-lexing.ensures.read in
    let p = clause_of_all h.brief c.as_slice-tokens.ensures.value (reads_none clause_of c.as_slice-tokens.result.now c.in_ok-clause.ensures.read c.in_default.is) in
    let q = include_of_all h.brief c.as_slice-tokens.ensures.value (reads_none include_of c.as_slice-tokens.result.now c.in_ok-include.ensures c.in_default-2.is) in
    no_item_read c.args.bytes.now c.args.at h.all l.start l.end l.why h.read p q c.no_item.result (no_item_of_all h.brief c.as_slice-tokens.ensures.value l.start l.why c.no_item.result c.no_item.ensures)
