use Rattle.si_tree.proofs.StandingLaws.{not_yet}
use Rattle.si_tree.proofs.postings.place_from_ends.Goals as goal

pub loop-place-preserved : goal.loop-place-preserved
loop-place-preserved c =
    not_yet c.args.slots.now c.loop-place.place c.args.posting c.loop-place.invariant (c.is_at.ensures.no c.if-is_at.false)
