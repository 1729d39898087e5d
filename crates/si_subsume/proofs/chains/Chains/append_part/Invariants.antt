use Rattle.std.proofs.Common.{◌-◌, ◌++◌, length}
use Rattle.si_subsume.specs.Parts.{select}
use Rattle.si_subsume.proofs.ChainLaws.{IsWalking}
use Rattle.si_subsume.proofs.chains.Chains.append_part.Given as goal

abbrev pub invariant-loop-at : goal.invariant-loop-at
invariant-loop-at l =
    IsWalking l.self l.label l.literals (l.fn.grouped.items ++ select l.self l.label l.literals) l.grouped.items l.at

abbrev pub decreases-loop-at : goal.decreases-loop-at
decreases-loop-at l = length l.literals - l.at
