use Rattle.std.proofs.Common.{take}
use Rattle.si_entries.proofs.NumberLaws.{AreWritten}
use Rattle.si_entries.proofs.numbers.write_anew.Given as goal

abbrev pub invariant-loop-cell : goal.invariant-loop-cell
invariant-loop-cell l = AreWritten (take l.cell-index l.term) l.met l.cells.items
