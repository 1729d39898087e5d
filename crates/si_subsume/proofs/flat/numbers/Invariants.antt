use Rattle.std.proofs.Common.{◌≡◌, take, map}
use Rattle.si_subsume.specs.Search.{number_from_one}
use Rattle.si_subsume.proofs.flat.numbers.Given as goal

abbrev pub invariant-loop-i : goal.invariant-loop-i
invariant-loop-i l = l.list ≡ map number_from_one (take l.i l.choices)
