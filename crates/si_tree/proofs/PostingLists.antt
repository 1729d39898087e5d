-- An item of a list replaced.
use Rattle.std.proofs.Common.{◌≡◌, ℕ, zero, suc, List, [], ◌∷◌, Some, ap, refl}
use Rattle.std.proofs.lemmas.Option.{same_Some}
use Rattle.std.specs.Prelude.{slice_get, slice_set}
use Rattle.si_tree.specs.KeptNodes.{IsReplaced}

pub replaced : {X : Type 0} (xs : List X) (n : ℕ) (x y : X) → slice_get xs n ≡ Some x → IsReplaced xs x y (slice_set xs n y)
replaced [] n x y e = absurd (by e) where
  by : slice_get [] n ≡ Some x → ⊥
  by f = cc
replaced (z ∷ xs) zero x y e = record { front = []; back = xs; old_is = ap (λ w. w ∷ xs) (same_Some z x e); new_is = refl }
replaced (z ∷ xs) (suc n) x y e =
    let rest = replaced xs n x y e in
    record { front = z ∷ rest.front; back = rest.back; old_is = ap (λ zs. z ∷ zs) rest.old_is; new_is = ap (λ zs. z ∷ zs) rest.new_is }
