use Rattle.std.proofs.Common.{refl, sym, subst}
use Rattle.si_flat.specs.Cells.{query, ind}
use Rattle.si_descend.specs.Subtrees.{EndsFree}
use Rattle.si_descend.proofs.Openness.{query_no_entry, ind_no_entry}
use Rattle.si_descend.proofs.EndTurns.{some_end, ends_free}
use Rattle.si_descend.proofs.ends.free_end.Goals as goal

pub bounds-0 : goal.bounds-0
bounds-0 c = some_end c.args.slots.now c.args.trail.now.pairs c.args.indicator.now c.end_of-end.result.now c.end_of-end.ensures.ends

pub returns-in-Query : goal.returns-in-Query
returns-in-Query c n e =
    subst (EndsFree c.args.slots.now c.args.trail.now.pairs n) (sym c.query_slot.ensures)
    (ends_free c.args.slots.now c.args.trail.now.pairs n c.args.indicator.now c.end_of-end.result.now e c.end_of-end.ensures.ends c.end_of-end.ensures.range (query c.in-Query.number) c.in-Query.is (λ m p. query_no_entry c.in-Query.number m p) c.requires.unfrozen)

pub returns-in-Ind : goal.returns-in-Ind
returns-in-Ind c n e =
    subst (EndsFree c.args.slots.now c.args.trail.now.pairs n) (sym c.indicator_slot.ensures)
    (ends_free c.args.slots.now c.args.trail.now.pairs n c.args.indicator.now c.end_of-end.result.now e c.end_of-end.ensures.ends c.end_of-end.ensures.range (ind c.in-Ind.number) c.in-Ind.is (λ m p. ind_no_entry c.in-Ind.number m p) refl)
