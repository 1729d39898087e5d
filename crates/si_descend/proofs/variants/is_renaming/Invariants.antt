use Rattle.std.proofs.Common.{◌≡◌}
use Rattle.si_defs.specs.Substitutions.{Grows}
use Rattle.si_descend.specs.Renaming.{AreTaken, IsRenamingFirst}
use Rattle.si_descend.proofs.variants.is_renaming.Given as goal

pub record Invariant (renaming taken grows slots : Type 0) : Type 0 where
  pub renaming_first : renaming
  pub taken_so_far : taken
  pub more_taken : grows
  pub same_slots : slots

abbrev pub invariant-loop-n : goal.invariant-loop-n
invariant-loop-n l =
    Invariant
    (IsRenamingFirst l.slots l.trail.pairs l.n)
    (AreTaken l.slots l.trail.pairs l.n l.taken.pairs)
    (Grows l.fn.taken.pairs l.taken.pairs)
    (l.taken.slots ≡ l.fn.taken.slots)
