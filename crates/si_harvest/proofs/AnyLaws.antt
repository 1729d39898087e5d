-- Whether any item of a list passes, with one more item at its end.
use Rattle.std.proofs.Common.{◌≡◌, Bool, true, false, ◌||◌, List, [], ◌∷◌, ◌++◌, refl, ap, ◌∙◌}
use Rattle.std.specs.List.{list_any}

swap : (a b c : Bool) → (a || (b || c)) ≡ (b || (a || c))
swap true true c = refl
swap true false c = refl
swap false true c = refl
swap false false c = refl

pub any_last : {A : Type 0} (passes : A → Bool) (xs : List A) (x : A) → list_any passes (xs ++ x ∷ []) ≡ (passes x || list_any passes xs)
any_last passes [] x = refl
any_last passes (y ∷ ys) x = ap (λ b. passes y || b) (any_last passes ys x) ∙ swap (passes y) (passes x) (list_any passes ys)
