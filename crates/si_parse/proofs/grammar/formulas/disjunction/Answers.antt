use Rattle.std.proofs.Common.{◌<◌, Some, length, refl, ap, ◌∙◌, arith}
use Rattle.std.proofs.lemmas.List.{map_push}
use Rattle.si_defs.specs.Grammar.{IsLiteral}
use Rattle.si_parse.specs.Meaning.{literals_of}
use Rattle.si_term.specs.Meaning.{literal_of}
use Rattle.si_lex.specs.Lexemes.{tokens_of}
use Rattle.si_parse.proofs.ParseSteps.{parses_at}
use Rattle.si_parse.proofs.ParseReads.{reads_some, reads_none, mark_front, mark_none, mark_shorter, left_shorter}
use Rattle.si_parse.proofs.ParseRows.{row_none, row_stop, row_some, along_at, along_first, along_more}
use Rattle.si_parse.proofs.GrammarFormulas.{literal_last, bar_no_equation, bar_stops}
use Rattle.si_parse.proofs.grammar.formulas.disjunction.Goals as goal

pub returns-in_default : goal.returns-in_default
returns-in_default c = row_none IsLiteral literal_last bar_no_equation bar_stops (reads_none literal_of c.args.tokens.now c.in_ok-first.ensures c.in_default.is)

pub returns-in_default-mark_at : goal.returns-in_default-mark_at
returns-in_default-mark_at c =
    let p = reads_some literal_of c.args.tokens.now c.in_ok-first.ensures c.in-Some.is in
    parses_at refl (ap (λ ls. Some (literals_of ls, tokens_of c.in-Some.behind.now)) c.in_ok-one.ensures)
    (row_some IsLiteral literal_last bar_no_equation bar_stops (along_first IsLiteral literal_last bar_no_equation bar_stops p) (mark_none c.in_default-mark_at.ensures))

pub front_literal-requires-2 : goal.front_literal-requires-2
front_literal-requires-2 c =
    let one = left_shorter c.args.tokens.now c.in-Some.behind.now (reads_some literal_of c.args.tokens.now c.in_ok-first.ensures c.in-Some.is) in
    let two = mark_shorter c.in-Some.behind.now c.in-Some-mark_at.rest.now c.in-Some-mark_at.ensures in
    omega (arith, one, two, c.requires)

pub returns-in_default-2 : goal.returns-in_default-2
returns-in_default-2 c =
    let p = reads_some literal_of c.args.tokens.now c.in_ok-first.ensures c.in-Some.is in
    row_stop IsLiteral literal_last bar_no_equation bar_stops (along_first IsLiteral literal_last bar_no_equation bar_stops p) (mark_front c.in-Some-mark_at.ensures)
    (reads_none literal_of c.in-Some-mark_at.rest.now c.in_ok-second.ensures c.in_default-2.is)

pub returns-in_default-mark_at-2 : goal.returns-in_default-mark_at-2
returns-in_default-mark_at-2 c =
    let p = reads_some literal_of c.args.tokens.now c.in_ok-first.ensures c.in-Some.is in
    let q = reads_some literal_of c.in-Some-mark_at.rest.now c.in_ok-second.ensures c.in-Some-2.is in
    parses_at refl (ap (λ ls. Some (literals_of ls, tokens_of c.in-Some-2.behind.now)) c.in_ok-pair.ensures)
    (row_some IsLiteral literal_last bar_no_equation bar_stops (along_more IsLiteral literal_last bar_no_equation bar_stops (along_first IsLiteral literal_last bar_no_equation bar_stops p) (mark_front c.in-Some-mark_at.ensures) q) (mark_none c.in_default-mark_at-2.ensures))

pub front_literal-requires-3 : goal.front_literal-requires-3
front_literal-requires-3 c =
    let one = left_shorter c.args.tokens.now c.in-Some.behind.now (reads_some literal_of c.args.tokens.now c.in_ok-first.ensures c.in-Some.is) in
    let two = mark_shorter c.in-Some.behind.now c.in-Some-mark_at.rest.now c.in-Some-mark_at.ensures in
    let three = left_shorter c.in-Some-mark_at.rest.now c.in-Some-2.behind.now (reads_some literal_of c.in-Some-mark_at.rest.now c.in_ok-second.ensures c.in-Some-2.is) in
    let four = mark_shorter c.in-Some-2.behind.now c.in-Some-mark_at-2.rest.now c.in-Some-mark_at-2.ensures in
    omega (arith, one, two, three, four, c.requires)

pub returns-in_default-3 : goal.returns-in_default-3
returns-in_default-3 c =
    let p = reads_some literal_of c.args.tokens.now c.in_ok-first.ensures c.in-Some.is in
    let q = reads_some literal_of c.in-Some-mark_at.rest.now c.in_ok-second.ensures c.in-Some-2.is in
    row_stop IsLiteral literal_last bar_no_equation bar_stops (along_more IsLiteral literal_last bar_no_equation bar_stops (along_first IsLiteral literal_last bar_no_equation bar_stops p) (mark_front c.in-Some-mark_at.ensures) q) (mark_front c.in-Some-mark_at-2.ensures)
    (reads_none literal_of c.in-Some-mark_at-2.rest.now c.in_ok-third.ensures c.in_default-3.is)

pub returns-in_default-mark_at-3 : goal.returns-in_default-mark_at-3
returns-in_default-mark_at-3 c =
    let p = reads_some literal_of c.args.tokens.now c.in_ok-first.ensures c.in-Some.is in
    let q = reads_some literal_of c.in-Some-mark_at.rest.now c.in_ok-second.ensures c.in-Some-2.is in
    let r = reads_some literal_of c.in-Some-mark_at-2.rest.now c.in_ok-third.ensures c.in-Some-3.is in
    let two = along_more IsLiteral literal_last bar_no_equation bar_stops (along_first IsLiteral literal_last bar_no_equation bar_stops p) (mark_front c.in-Some-mark_at.ensures) q in
    parses_at refl (ap (λ ls. Some (literals_of ls, tokens_of c.in-Some-3.behind.now)) c.in_ok-three.ensures)
    (row_some IsLiteral literal_last bar_no_equation bar_stops (along_more IsLiteral literal_last bar_no_equation bar_stops two (mark_front c.in-Some-mark_at-2.ensures) r) (mark_none c.in_default-mark_at-3.ensures))

pub loop-rest-init : goal.loop-rest-init
loop-rest-init c =
    let p = reads_some literal_of c.args.tokens.now c.in_ok-first.ensures c.in-Some.is in
    let q = reads_some literal_of c.in-Some-mark_at.rest.now c.in_ok-second.ensures c.in-Some-2.is in
    let r = reads_some literal_of c.in-Some-mark_at-2.rest.now c.in_ok-third.ensures c.in-Some-3.is in
    let two = along_more IsLiteral literal_last bar_no_equation bar_stops (along_first IsLiteral literal_last bar_no_equation bar_stops p) (mark_front c.in-Some-mark_at.ensures) q in
    record {
      along = along_at (ap literals_of c.in_ok-literals.ensures) (along_more IsLiteral literal_last bar_no_equation bar_stops two (mark_front c.in-Some-mark_at-2.ensures) r);
      shorter = omega (
        arith,
        left_shorter c.args.tokens.now c.in-Some.behind.now p,
        mark_shorter c.in-Some.behind.now c.in-Some-mark_at.rest.now c.in-Some-mark_at.ensures,
        left_shorter c.in-Some-mark_at.rest.now c.in-Some-2.behind.now q,
        mark_shorter c.in-Some-2.behind.now c.in-Some-mark_at-2.rest.now c.in-Some-mark_at-2.ensures,
        left_shorter c.in-Some-mark_at-2.rest.now c.in-Some-3.behind.now r,
      );
    }

pub front_literal-requires-in-Some-mark_at-4 : goal.front_literal-requires-in-Some-mark_at-4
front_literal-requires-in-Some-mark_at-4 c =
    let one : length c.in-Some-mark_at-4.rest.now < length c.loop-rest.left.now = mark_shorter c.loop-rest.left.now c.in-Some-mark_at-4.rest.now c.in-Some-mark_at-4.ensures in
    omega (arith, one, c.loop-rest.invariant.shorter, c.requires)

pub returns-in_default-4 : goal.returns-in_default-4
returns-in_default-4 c =
    row_stop IsLiteral literal_last bar_no_equation bar_stops c.loop-rest.invariant.along (mark_front c.in-Some-mark_at-4.ensures)
    (reads_none literal_of c.in-Some-mark_at-4.rest.now c.in_ok-next.ensures c.in_default-4.is)

pub loop-rest-smaller : goal.loop-rest-smaller
loop-rest-smaller c =
    let one : length c.in-Some-mark_at-4.rest.now < length c.loop-rest.left.now = mark_shorter c.loop-rest.left.now c.in-Some-mark_at-4.rest.now c.in-Some-mark_at-4.ensures in
    let shorter : length c.in-Some-4.behind.now < length c.loop-rest.left.now =
    omega (arith, one, left_shorter c.in-Some-mark_at-4.rest.now c.in-Some-4.behind.now (reads_some literal_of c.in-Some-mark_at-4.rest.now c.in_ok-next.ensures c.in-Some-4.is)) in
    shorter

pub loop-rest-preserved : goal.loop-rest-preserved
loop-rest-preserved c =
    let p = reads_some literal_of c.in-Some-mark_at-4.rest.now c.in_ok-next.ensures c.in-Some-4.is in
    let one : length c.in-Some-mark_at-4.rest.now < length c.loop-rest.left.now = mark_shorter c.loop-rest.left.now c.in-Some-mark_at-4.rest.now c.in-Some-mark_at-4.ensures in
    record {
      along = along_at (ap literals_of c.in_ok-push.ensures.ok ∙ map_push literal_of c.loop-rest.literals c.in-Some-4.next)
          (along_more IsLiteral literal_last bar_no_equation bar_stops c.loop-rest.invariant.along (mark_front c.in-Some-mark_at-4.ensures) p);
      shorter = omega (arith, one, left_shorter c.in-Some-mark_at-4.rest.now c.in-Some-4.behind.now p, c.loop-rest.invariant.shorter);
    }

pub returns : goal.returns
returns c =
    parses_at refl (ap (λ ls. Some (literals_of ls, tokens_of c.loop-rest.left.now)) c.shrink.ensures)
    (row_some IsLiteral literal_last bar_no_equation bar_stops c.loop-rest.invariant.along (mark_none c.in_default-mark_at-4.ensures))
