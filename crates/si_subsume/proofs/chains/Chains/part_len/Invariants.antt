use Rattle.std.proofs.Common.{◌≡◌, ◌-◌, ◌≤◌, ℕ, List, length}
use Rattle.si_subsume.specs.Parts.{select}
use Rattle.si_subsume.proofs.ChainLaws.{IsWalking}
use Rattle.si_subsume.proofs.chains.Chains.part_len.Given as goal

abbrev pub invariant-loop-at : goal.invariant-loop-at
invariant-loop-at l =
    (passed : List ℕ) × IsWalking l.self l.label l.self (select l.self l.label l.self) passed l.at
    × (length passed ≡ l.count)
    × (l.count ≤ l.at)

abbrev pub decreases-loop-at : goal.decreases-loop-at
decreases-loop-at l = length l.self - l.at
