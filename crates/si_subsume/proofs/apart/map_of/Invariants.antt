use Rattle.std.proofs.Common.{◌≡◌, take}
use Rattle.si_subsume.proofs.apart.map_of.Given as goal

abbrev pub invariant-loop-i : goal.invariant-loop-i
invariant-loop-i l = l.list ≡ take l.i l.numbers
