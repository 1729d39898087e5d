use Rattle.si_unify.proofs.Solutions.{entry_tells}
use Rattle.si_unify.proofs.slots.Slots.is_entry_slot.Goals as goal

pub returns-then-slot-first : goal.returns-then-slot-first
returns-then-slot-first c = entry_tells c.args.self.now c.args.slot c.if-slot-first.true
