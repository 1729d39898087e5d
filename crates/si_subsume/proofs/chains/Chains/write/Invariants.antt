use Rattle.std.proofs.Common.{map}
use Rattle.si_subsume.specs.Search.{number_from_one}
use Rattle.si_subsume.proofs.ChainLaws.{IsWriting}
use Rattle.si_subsume.proofs.chains.Chains.write.Given as goal

abbrev pub invariant-loop-i : goal.invariant-loop-i
invariant-loop-i l = IsWriting l.self l.label (map number_from_one l.choices) l.fn.numbers.items l.numbers.items l.at l.i
