use Rattle.std.proofs.Common.{◌<◌, ◌∷◌, ◌++◌, [], Some, length, refl, ap, ◌∙◌, arith}
use Rattle.std.proofs.lemmas.List.{map_push}
use Rattle.si_parse.specs.Meaning.{names_of}
use Rattle.si_parse.specs.GrammarRules.{IsNameToken}
use Rattle.si_term.specs.Meaning.{name_of}
use Rattle.si_lex.specs.Lexemes.{tokens_of}
use Rattle.si_parse.proofs.ParseSteps.{parses_at}
use Rattle.si_parse.proofs.ParseReads.{reads_some, reads_none, mark_front, mark_none, mark_shorter, left_shorter}
use Rattle.si_parse.proofs.ParseRows.{row_none, row_stop, row_some, along_at, along_first, along_more}
use Rattle.si_parse.proofs.GrammarNames.{name_last, name_goes_on, name_stops}
use Rattle.si_parse.proofs.grammar.names.names.Goals as goal

pub returns-in_default : goal.returns-in_default
returns-in_default c = row_none IsNameToken name_last name_goes_on name_stops (reads_none name_of c.args.tokens.now c.in_ok-first.ensures c.in_default.is)

pub loop-rest-init : goal.loop-rest-init
loop-rest-init c =
    along_at (ap names_of (c.in_ok-push.ensures.ok ∙ ap (λ ns. ns ++ c.in-Some.first ∷ []) c.new-names.ensures))
    (along_first IsNameToken name_last name_goes_on name_stops (reads_some name_of c.args.tokens.now c.in_ok-first.ensures c.in-Some.is))

pub returns-in_default-2 : goal.returns-in_default-2
returns-in_default-2 c =
    row_stop IsNameToken name_last name_goes_on name_stops c.loop-rest.invariant (mark_front c.in-Some-mark_at.ensures)
    (reads_none name_of c.in-Some-mark_at.rest.now c.in_ok-next.ensures c.in_default-2.is)

pub loop-rest-smaller : goal.loop-rest-smaller
loop-rest-smaller c =
    let one : length c.in-Some-mark_at.rest.now < length c.loop-rest.left.now = mark_shorter c.loop-rest.left.now c.in-Some-mark_at.rest.now c.in-Some-mark_at.ensures in
    let shorter : length c.in-Some-2.behind.now < length c.loop-rest.left.now =
    omega (arith, one, left_shorter c.in-Some-mark_at.rest.now c.in-Some-2.behind.now (reads_some name_of c.in-Some-mark_at.rest.now c.in_ok-next.ensures c.in-Some-2.is)) in
    shorter

pub loop-rest-preserved : goal.loop-rest-preserved
loop-rest-preserved c =
    along_at (ap names_of c.in_ok-push-2.ensures.ok ∙ map_push name_of c.loop-rest.names c.in-Some-2.next)
    (along_more IsNameToken name_last name_goes_on name_stops c.loop-rest.invariant (mark_front c.in-Some-mark_at.ensures)
    (reads_some name_of c.in-Some-mark_at.rest.now c.in_ok-next.ensures c.in-Some-2.is))

pub returns : goal.returns
returns c =
    parses_at refl (ap (λ ns. Some (names_of ns, tokens_of c.loop-rest.left.now)) c.shrink.ensures)
    (row_some IsNameToken name_last name_goes_on name_stops c.loop-rest.invariant (mark_none c.in_default-mark_at.ensures))
