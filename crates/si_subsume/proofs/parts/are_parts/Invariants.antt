use Rattle.std.proofs.Common.{◌<◌, length, take}
use Rattle.std.specs.List.{AllByRecursion}
use Rattle.si_subsume.specs.Parts.{BelongToParts, owner_in}
use Rattle.si_subsume.proofs.parts.are_parts.Given as goal

abbrev pub invariant-loop-i : goal.invariant-loop-i
invariant-loop-i l =
    BelongToParts l.slots (owner_in l.owners l.labels) (take l.i l.labels) (take l.i l.literals)
    × AllByRecursion (λ k. k < length l.literals) (take l.i l.labels)
