use Rattle.std.proofs.Common.{take}
use Rattle.std.specs.List.{AllByRecursion}
use Rattle.si_form.specs.Direct.{IsDirect}
use Rattle.si_form.proofs.direct.are_direct.Given as goal

abbrev pub invariant-loop-n : goal.invariant-loop-n
invariant-loop-n l = AllByRecursion (IsDirect l.slots l.trail.pairs) (take l.n l.trail.pairs)
