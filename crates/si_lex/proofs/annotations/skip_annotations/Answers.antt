use Rattle.si_lex.proofs.AnnotationLaws.{in_notes_none, in_notes_more, past_notes}
use Rattle.si_lex.proofs.annotations.skip_annotations.Goals as goal

pub loop-place-init : goal.loop-place-init
loop-place-init c =
    in_notes_none c.args.bytes.now c.args.at c.skip_blanks-first.result c.none-pending.result c.none-pending.ensures c.skip_blanks-first.ensures.from c.skip_blanks-first.ensures.behind

pub returns-then-is_empty : goal.returns-then-is_empty
returns-then-is_empty c =
    past_notes c.args.bytes.now c.args.at c.skip_blanks-first.result c.loop-place.place c.loop-place.pending c.in_ok-lexeme.lexeme c.loop-place.invariant c.loop-place-test.true
    c.in_ok-lexeme.ensures c.if-bytes-place-eq41.true (c.is_empty.ensures.0 c.if-is_empty.true) c.if-place-first.false

pub loop-place-preserved : goal.loop-place-preserved
loop-place-preserved c =
    in_notes_more c.args.bytes.now c.args.at c.skip_blanks-first.result c.loop-place.place c.loop-place.pending c.in_ok-lexeme.lexeme c.loop-place.invariant c.loop-place-test.true
    c.in_ok-lexeme.ensures c.skip_blanks-place.result c.in_ok-pending.pending c.in_ok-pending.ensures.next c.in_ok-pending.ensures.few c.skip_blanks-place.ensures.from c.skip_blanks-place.ensures.behind
