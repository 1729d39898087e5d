use Rattle.std.proofs.Common.{take}
use Rattle.si_defs.specs.Substitutions.{IsAmong}
use Rattle.si_tree.specs.Slots.{standing}
use Rattle.si_tree.proofs.postings.place_from_ends.Given as goal

abbrev pub invariant-loop-place : goal.invariant-loop-place
invariant-loop-place l = IsAmong (standing (take l.place l.slots)) l.posting → ⊥
