use Rattle.std.proofs.Common.{◌≡◌, take}
use Rattle.si_form.specs.Classes.{slots_of}
use Rattle.si_form.proofs.uses.slots_of.Given as goal

abbrev pub invariant-loop-cell : goal.invariant-loop-cell
invariant-loop-cell l = l.used.items ≡ slots_of l.slots (take l.cell-index l.cells)
