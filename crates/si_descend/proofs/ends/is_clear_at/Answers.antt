use Rattle.std.proofs.Common.{refl, sym}
use Rattle.si_unify.proofs.Lists.{slot_bound}
use Rattle.si_descend.proofs.EndTurns.{other_clear, clear_value, value_clear}
use Rattle.si_descend.proofs.RenameLaws.{untrue}
use Rattle.si_descend.proofs.ends.is_clear_at.Goals as goal

pub returns-then-not-is_entry_slot : goal.returns-then-not-is_entry_slot
returns-then-not-is_entry_slot c = (
  λ t. other_clear c.args.slots.now c.args.trail.now.pairs c.args.ends.now c.args.n c.slot-slot.result c.slot-slot.ensures (untrue c.is_entry_slot.result c.is_entry_slot.ensures c.if-not-is_entry_slot.true),
  λ clear. refl,
)

pub unreachable-requires : goal.unreachable-requires
unreachable-requires c = slot_bound c.args.trail.now.pairs c.args.n c.slot-slot.result c.slot-slot.ensures (sym c.in_default.ensures)

pub returns : goal.returns
returns c =
    let entry = c.is_entry_slot.ensures.0 c.if-not-is_entry_slot.false in (
      λ t. clear_value c.args.slots.now c.args.trail.now.pairs c.args.ends.now c.args.n c.slot-slot.result c.in-Some.value.now c.requires.distinct c.slot-slot.ensures c.in-Some.ensures (c.are_clear_cells.ensures.0 t),
      λ clear. c.are_clear_cells.ensures.1 (value_clear c.args.slots.now c.args.trail.now.pairs c.args.ends.now c.args.n c.slot-slot.result entry.0 c.in-Some.value.now c.requires.distinct c.slot-slot.ensures c.in-Some.ensures entry.1 clear),
    )
