use Rattle.std.proofs.Common.{get_or, sym}
use Rattle.si_unify.specs.Solving.{IsBinding}
use Rattle.si_unify.proofs.Lists.{slot_bound}
use Rattle.si_unify.proofs.Places.{value_holds, whole_at, inside}
use Rattle.si_fit.proofs.EndLaws.{no_cell}
use Rattle.si_descend.proofs.RenameLaws.{untrue, no_entry, query_range, became_query, became_other, app_no_query, entry_cell_no_query, ind_cell_no_query}
use Rattle.si_descend.proofs.variants.outcome.Goals as goal

pub returns-then-not-is_entry_slot-clause-became : goal.returns-then-not-is_entry_slot-clause-became
returns-then-not-is_entry_slot-clause-became c =
    no_entry c.args.slots.now c.args.trail.now.pairs c.args.trail.now.slots c.requires.frozen c.requires.solving c.requires.distinct c.args.n c.slot-slot.result c.slot-slot.ensures (untrue c.is_entry_slot.result c.is_entry_slot.ensures c.if-not-is_entry_slot.true)

pub unreachable-requires : goal.unreachable-requires
unreachable-requires c =
    slot_bound c.args.trail.now.pairs c.args.n c.slot-slot.result c.slot-slot.ensures (sym c.in_default.ensures)

pub end_of-end-requires-clause-whole : goal.end_of-end-requires-clause-whole
end_of-end-requires-clause-whole c = (value_holds (IsBinding c.args.slots.now) c.args.trail.now.pairs c.slot-slot.result c.in-Some.value.now c.requires.solving.bindings (sym c.in-Some.ensures)).whole

pub end_of-end-requires-clause-range : goal.end_of-end-requires-clause-range
end_of-end-requires-clause-range c = (value_holds (IsBinding c.args.slots.now) c.args.trail.now.pairs c.slot-slot.result c.in-Some.value.now c.requires.solving.bindings (sym c.in-Some.ensures)).in_range

pub bounds-0 : goal.bounds-0
bounds-0 c = inside c.end_of-end.result.now 0 c.end_of-end.ensures.ends.last (whole_at c.end_of-end.result.now c.end_of-end.ensures.ends.last c.end_of-end.ensures.ends.last_stands)

pub returns-in-Query-clause-became : goal.returns-in-Query-clause-became
returns-in-Query-clause-became c =
    became_query c.args.slots.now c.args.trail.now.pairs c.args.trail.now.slots c.requires.frozen c.requires.solving c.requires.distinct c.args.n c.slot-slot.result c.slot-slot.ensures (c.is_entry_slot.ensures.0 c.if-not-is_entry_slot.false).0 (c.is_entry_slot.ensures.0 c.if-not-is_entry_slot.false).1 c.in-Some.value.now c.in-Some.ensures c.end_of-end.result.now c.end_of-end.ensures.ends c.end_of-end.ensures.range
    c.in-Query.number c.in-Query.is

pub returns-in-Query-clause-range : goal.returns-in-Query-clause-range
returns-in-Query-clause-range c =
    query_range c.args.slots.now c.args.trail.now.pairs c.args.trail.now.slots c.requires.frozen c.requires.solving c.requires.distinct c.args.n c.slot-slot.result c.slot-slot.ensures (c.is_entry_slot.ensures.0 c.if-not-is_entry_slot.false).0 (c.is_entry_slot.ensures.0 c.if-not-is_entry_slot.false).1 c.in-Some.value.now c.in-Some.ensures c.end_of-end.result.now c.end_of-end.ensures.ends c.end_of-end.ensures.range
    c.in-Query.number c.in-Query.is

pub returns-in-App-clause-became : goal.returns-in-App-clause-became
returns-in-App-clause-became c =
    became_other c.args.slots.now c.args.trail.now.pairs c.args.trail.now.slots c.requires.frozen c.requires.solving c.requires.distinct c.args.n c.slot-slot.result c.slot-slot.ensures (c.is_entry_slot.ensures.0 c.if-not-is_entry_slot.false).0 (c.is_entry_slot.ensures.0 c.if-not-is_entry_slot.false).1 c.in-Some.value.now c.in-Some.ensures c.end_of-end.result.now c.end_of-end.ensures.ends c.end_of-end.ensures.range
    (app_no_query (get_or c.end_of-end.result.now 0 no_cell) c.in-App.sym c.in-App.arity c.in-App.len c.in-App.is)

pub returns-in-Entry-clause-became : goal.returns-in-Entry-clause-became
returns-in-Entry-clause-became c =
    became_other c.args.slots.now c.args.trail.now.pairs c.args.trail.now.slots c.requires.frozen c.requires.solving c.requires.distinct c.args.n c.slot-slot.result c.slot-slot.ensures (c.is_entry_slot.ensures.0 c.if-not-is_entry_slot.false).0 (c.is_entry_slot.ensures.0 c.if-not-is_entry_slot.false).1 c.in-Some.value.now c.in-Some.ensures c.end_of-end.result.now c.end_of-end.ensures.ends c.end_of-end.ensures.range
    (entry_cell_no_query (get_or c.end_of-end.result.now 0 no_cell) c.in-Entry.field-0 c.in-Entry.is)

pub returns-in-Ind-clause-became : goal.returns-in-Ind-clause-became
returns-in-Ind-clause-became c =
    became_other c.args.slots.now c.args.trail.now.pairs c.args.trail.now.slots c.requires.frozen c.requires.solving c.requires.distinct c.args.n c.slot-slot.result c.slot-slot.ensures (c.is_entry_slot.ensures.0 c.if-not-is_entry_slot.false).0 (c.is_entry_slot.ensures.0 c.if-not-is_entry_slot.false).1 c.in-Some.value.now c.in-Some.ensures c.end_of-end.result.now c.end_of-end.ensures.ends c.end_of-end.ensures.range
    (ind_cell_no_query (get_or c.end_of-end.result.now 0 no_cell) c.in-Ind.field-0 c.in-Ind.is)
