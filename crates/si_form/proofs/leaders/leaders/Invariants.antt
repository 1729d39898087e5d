use Rattle.std.proofs.Common.{◌≡◌, length}
use Rattle.si_unify.specs.declared.slots.Slots.{Slots}
use Rattle.si_form.specs.Folding.{LeadClasses}
use Rattle.si_form.proofs.leaders.leaders.Given as goal

abbrev pub invariant-loop-slot : goal.invariant-loop-slot
invariant-loop-slot l =
    (length l.leaders.items ≡ length l.classes.nodes.keys)
    × ((slots : Slots) → LeadClasses slots l.classes.nodes.keys l.classes.of_slots.items l.slot l.leaders.items)
