use Rattle.std.proofs.Common.{take}
use Rattle.si_form.specs.Direct.{AreRenamed}
use Rattle.si_form.proofs.direct.renamed.Given as goal

abbrev pub invariant-loop-cell : goal.invariant-loop-cell
invariant-loop-cell l = AreRenamed l.slots l.trail.pairs (take l.cell-index l.cells) l.new.items
