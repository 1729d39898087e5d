use Rattle.std.proofs.Common.{length}
use Rattle.si_form.specs.Classes.{IsClassing}
use Rattle.si_form.specs.Ordering.{uses_at}
use Rattle.si_form.proofs.classes.find_classes.Given as goal

abbrev pub invariant-loop-slot : goal.invariant-loop-slot
invariant-loop-slot l = IsClassing (uses_at l.lists.items) l.slots l.trail.pairs l.nodes.keys l.of_slots.items l.left.items

abbrev pub decreases-loop-slot : goal.decreases-loop-slot
decreases-loop-slot l = length l.left.items
