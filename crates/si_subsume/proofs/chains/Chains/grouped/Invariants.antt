use Rattle.std.proofs.Common.{length}
use Rattle.si_subsume.specs.Parts.{parts_from}
use Rattle.si_subsume.proofs.ChainLaws.{ArePassed}
use Rattle.si_subsume.proofs.chains.Chains.grouped.Given as goal

abbrev pub invariant-loop-label : goal.invariant-loop-label
invariant-loop-label l =
    ArePassed l.self (length l.literals) l.literals (parts_from l.self 0 (length l.literals) l.literals) l.grouped.items l.label
