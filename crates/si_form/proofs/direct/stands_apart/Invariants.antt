use Rattle.std.proofs.Common.{◌≢◌, take}
use Rattle.std.specs.List.{AllByRecursion}
use Rattle.si_unify.specs.Solving.{IsPieceOf}
use Rattle.si_form.proofs.direct.stands_apart.Given as goal

abbrev pub invariant-loop-n : goal.invariant-loop-n
invariant-loop-n l = AllByRecursion (λ other. other.0 ≢ l.slot → IsPieceOf other.1.now l.value → ⊥) (take l.n l.trail.pairs)
