use Rattle.std.proofs.Common.{take}
use Rattle.si_defs.specs.Substitutions.{IsAmong}
use Rattle.si_tree.proofs.heads.place_of_head.Given as goal

abbrev pub invariant-loop-place : goal.invariant-loop-place
invariant-loop-place l = IsAmong (take l.place l.heads) l.head → ⊥
