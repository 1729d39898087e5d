use Rattle.std.proofs.Common.{◌≡◌, ◌+◌, take}
use Rattle.si_form.specs.declared.direct.TheConstants.{MOST_CELLS}
use Rattle.si_form.specs.Direct.{cell_count}
use Rattle.si_form.proofs.direct.is_small.Given as goal

abbrev pub invariant-loop-n : goal.invariant-loop-n
invariant-loop-n l = l.room + cell_count (take l.n l.trail.pairs) ≡ MOST_CELLS
