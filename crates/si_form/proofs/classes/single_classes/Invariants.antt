use Rattle.si_form.specs.Classes.{HasSingles}
use Rattle.si_form.proofs.classes.single_classes.Given as goal

abbrev pub invariant-loop-slot : goal.invariant-loop-slot
invariant-loop-slot l = HasSingles l.slots l.nodes.keys l.of_slots.items l.slot
