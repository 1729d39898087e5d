use Rattle.std.proofs.Common.{take}
use Rattle.si_form.specs.Direct.{IsFirstAmong}
use Rattle.si_form.proofs.direct.first_of.Given as goal

abbrev pub invariant-loop-n : goal.invariant-loop-n
invariant-loop-n l = IsFirstAmong l.slots l.trail.pairs (take l.n l.trail.pairs) l.slot l.first
