-- How many cells the values of the first bindings have.
use Rattle.std.proofs.Common.{◌≡◌, ℕ, ◌+◌, ◌≤◌, List, [], ◌∷◌, length, take, suc, zero, refl, sym, ap, subst, arith, Some}
use Rattle.std.proofs.lemmas.List.{take_all}
use Rattle.std.proofs.lemmas.Option.{same_Some}
use Rattle.std.specs.Prelude.{slice_get}
use Rattle.std.specs.Borrow.{Bor}
use Rattle.si_flat.specs.declared.Cell.{Cell}
use Rattle.si_unify.specs.Solving.{Pairs}
use Rattle.si_form.specs.Direct.{cell_count}

pub count_none : (pairs : Pairs) → cell_count (take zero pairs) ≡ 0
count_none [] = refl
count_none (p ∷ pairs) = refl

count_next : (pairs : Pairs) (n slot : ℕ) (value : Bor (List Cell)) → slice_get pairs n ≡ Some (slot, value) → cell_count (take (suc n) pairs) ≡ cell_count (take n pairs) + length value.now
count_next [] n slot value e = cc
count_next (p ∷ pairs) zero slot value e =
    let own : length p.1.now ≡ length value.now = ap (λ q. length q.1.now) (same_Some p (slot, value) e) in
    omega (arith, count_none pairs, own)
count_next (p ∷ pairs) (suc n) slot value e = omega (arith, count_next pairs n slot value e)

-- with one binding more
pub count_more : (pairs : Pairs) (n slot : ℕ) (value : Bor (List Cell)) → slice_get pairs n ≡ Some (slot, value) → cell_count (take (n + 1) pairs) ≡ cell_count (take n pairs) + length value.now
count_more pairs n slot value e =
    let one : suc n ≡ n + 1 = omega arith in
    subst (λ m. cell_count (take m pairs) ≡ cell_count (take n pairs) + length value.now) one (count_next pairs n slot value e)

-- all have no fewer
pub count_within : (pairs : Pairs) (n : ℕ) → cell_count (take n pairs) ≤ cell_count pairs
count_within [] n = omega (arith, subst (λ l. cell_count l ≡ 0) (sym (take_all n [] (omega arith))) refl)
count_within (p ∷ pairs) zero = omega arith
count_within (p ∷ pairs) (suc n) = omega (arith, count_within pairs n)

-- as many, at the end
pub count_all : (pairs : Pairs) (n : ℕ) → length pairs ≤ n → cell_count (take n pairs) ≡ cell_count pairs
count_all pairs n full = ap cell_count (take_all n pairs full)
