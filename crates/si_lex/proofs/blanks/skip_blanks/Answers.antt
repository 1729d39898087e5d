use Rattle.si_lex.proofs.BlankPlaces.{skipped_more, skipped_here}
use Rattle.si_lex.proofs.blanks.skip_blanks.Goals as goal

pub loop-place-preserved : goal.loop-place-preserved
loop-place-preserved c =
    skipped_more c.args.bytes.now c.args.at c.loop-place.place c.in-Some.end c.loop-place.invariant c.loop-place-test.true c.in-Some.ensures

pub returns-in-None-clause-behind : goal.returns-in-None-clause-behind
returns-in-None-clause-behind c =
    skipped_here c.args.bytes.now c.args.at c.loop-place.place c.loop-place.invariant c.loop-place-test.true c.in-None.ensures
