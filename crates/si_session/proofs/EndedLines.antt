-- Lines that are written one after the other.
use Rattle.std.proofs.Common.{◌≡◌, List, [], ◌∷◌, ◌++◌, refl, ap, sym, ◌∙◌, append_assoc}
use Rattle.si_defs.specs.Bytes.{Bytes}
use Rattle.si_steps.specs.Runs.{ended}

pub ended-append : (xs ys : List Bytes) → ended (xs ++ ys) ≡ ended xs ++ ended ys
ended-append [] ys = refl
ended-append (x ∷ xs) ys = ap (λ l. x ++ 10 ∷ l) (ended-append xs ys) ∙ sym (append_assoc x (10 ∷ ended xs) (ended ys))
