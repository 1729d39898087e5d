use Rattle.si_fit.proofs.EndLaws.{indicator_whole}
use Rattle.si_descend.proofs.EndTurns.{adding_more}
use Rattle.si_descend.proofs.ends.add_ends.Goals as goal

pub free_end-requires-clause-whole : goal.free_end-requires-clause-whole
free_end-requires-clause-whole c = indicator_whole c.left_cells.result.now c.in-Some.pair.0 c.left_cells.ensures

pub loop-pair-preserved : goal.loop-pair-preserved
loop-pair-preserved c =
    adding_more c.args.slots.now c.args.trail.now.pairs c.args.bindings.now c.loop-pair.pair-iterator c.args.ends.now c.loop-pair.ends c.add.new.self c.in-Some.pair c.next.new.self c.in-Some-free_end.slot c.in-Some.ensures.steps c.loop-pair.invariant
    (c.in-Some-free_end.ensures c.in-Some.pair.0 c.left_cells.ensures) (c.add.ensures.new c.if-not-add.false) (c.add.ensures.added c.if-not-add.false)
