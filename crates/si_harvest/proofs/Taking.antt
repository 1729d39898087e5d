-- Clauses that are taken away one by one, the last first.
use Rattle.std.proofs.Common.{◌≡◌, ℕ, zero, suc, ◌+◌, ◌-◌, ◌≤◌, List, [], ◌∷◌, ◌++◌, take, length, refl, sym, ap, ap₂, ◌∙◌, Option, None, Some, IfSome, arith, take_all}
use Rattle.std.specs.Prelude.{IfNone}
use Rattle.si_defs.specs.Clauses.{Clause}
use Rattle.si_defs.proofs.ListLaws.{not_empty}

-- so many of the last are gone
pub record IsShortened (whole : List Clause) (gone : ℕ) (left : List Clause) : Type 0 where
  pub front : left ≡ take (length whole - gone) whole

pub none_gone : (whole : List Clause) → IsShortened whole 0 whole
none_gone whole = record { front = sym (take_all (length whole - 0) whole (omega arith)) }

count : (m : ℕ) → suc (suc m - 1) ≡ suc (suc m) - 1
count m = omega arith

shorter : (xs : List Clause) (n : ℕ) (ys : List Clause) (y : Clause) → take n xs ≡ ys ++ y ∷ [] → n ≤ length xs → ys ≡ take (n - 1) xs
shorter xs zero [] y e h = let f : [] ≡ y ∷ [] = e in cc
shorter xs zero (z ∷ zs) y e h = let f : [] ≡ z ∷ (zs ++ y ∷ []) = e in cc
shorter [] (suc n) ys y e h = absurd (omega (arith, h))
shorter (x ∷ xs) (suc n) [] y e h = let f : take n xs ≡ [] = cc in by n f h where
  by : (m : ℕ) → take m xs ≡ [] → suc m ≤ suc (length xs) → [] ≡ take (suc m - 1) (x ∷ xs)
  by zero f h = refl
  by (suc m) f h = none xs f (omega (arith, h)) where
    none : (ws : List Clause) → take (suc m) ws ≡ [] → suc m ≤ length ws → [] ≡ take (suc (suc m) - 1) (x ∷ ws)
    none [] g k = absurd (omega (arith, k))
    none (w ∷ ws) g k = let q : w ∷ take m ws ≡ [] = g in cc
shorter (x ∷ xs) (suc n) (z ∷ zs) y e h =
    let same : x ≡ z = cc in
    let f : take n xs ≡ zs ++ y ∷ [] = cc in
    more n f (shorter xs n zs y f (omega (arith, h))) same where
      more : (m : ℕ) → take m xs ≡ zs ++ y ∷ [] → zs ≡ take (m - 1) xs → x ≡ z → z ∷ zs ≡ take (suc m - 1) (x ∷ xs)
      more zero f k s = let g : [] ≡ zs ++ y ∷ [] = f in absurd (not_empty zs y [] g)
      more (suc m) f k s = ap₂ (λ w l. w ∷ l) (sym s) k ∙ ap (λ n. take n (x ∷ xs)) (count m)

pub one_gone : (r : Option ℕ) (whole old new : List Clause) (gone : ℕ) (P : ℕ → Clause → Type 0) → IsShortened whole gone old
    → IfSome r (λ n. (c : Clause) × (old ≡ new ++ c ∷ []) × P n c) → IfNone r (old ≡ []) → IfNone r (new ≡ old) → IsShortened whole (gone + 1) new
one_gone (Some n) whole old new gone P h some none kept = record {
  front = shorter whole (length whole - gone) new some.0 (sym h.front ∙ some.1) (omega arith) ∙ ap (λ m. take m whole) (omega arith);
}
one_gone None whole old new gone P h some none kept = record { front = kept ∙ none ∙ sym (nothing (length whole - (gone + 1)) whole (length whole - gone) (omega arith) (omega arith) (sym h.front ∙ none)) } where
  nothing : (m : ℕ) (xs : List Clause) (n : ℕ) → m ≤ n → n ≤ length xs → take n xs ≡ [] → take m xs ≡ []
  nothing zero xs n a b e = refl
  nothing (suc m) xs zero a b e = absurd (omega (arith, a))
  nothing (suc m) [] (suc n) a b e = refl
  nothing (suc m) (x ∷ xs) (suc n) a b e = let f : x ∷ take n xs ≡ [] = e in cc
