-- The first line feed, looked for by steps of several bytes.
use Rattle.std.proofs.Common.{◌≡◌, ℕ, ◌+◌, ◌≤◌, Bool, true, false, not, cond, ◌||◌, List, [], ◌∷◌, ◌++◌, length, length-take, length-drop, drop, drop-drop, take, take-append-drop, Some, None, nat_lt, refl, ap, ap₂, sym, ◌∙◌, arith}
use Rattle.std.specs.List.{list_any, position, position_or_len}
use Rattle.std.proofs.lemmas.Bool.Decides.{nat_tests}

module _ (p : ℕ → Bool) where
  -- where none of the first passes, the first one that does is found among the others
  none_in_front : (xs ys : List ℕ) → list_any p xs ≡ false → position_or_len p (xs ++ ys) ≡ length xs + position_or_len p ys
  none_in_front [] ys h = omega arith
  none_in_front (x ∷ xs) ys h = by (p x) h (none_in_front xs ys) where
    by : (b : Bool) → (b || list_any p xs) ≡ false → (list_any p xs ≡ false → position_or_len p (xs ++ ys) ≡ length xs + position_or_len p ys)
        → cond (not b) (1 + position_or_len p (xs ++ ys)) 0 ≡ length (x ∷ xs) + position_or_len p ys
    by true e rest = cc
    by false e rest = omega (arith, rest e)

  -- the same of the next sixteen
  pub none_in_step : (xs : List ℕ) (at : ℕ) → at + 16 ≤ length xs → list_any p (take 16 (drop at xs)) ≡ false → position_or_len p xs ≡ at + position_or_len p (drop at xs)
      → position_or_len p xs ≡ (at + 16) + position_or_len p (drop (at + 16) xs)
  none_in_step xs at within none so_far =
      let step : length (take 16 (drop at xs)) ≡ 16 = omega (arith, length-take 16 (drop at xs), length-drop at xs, within) in
      let parts : position_or_len p (drop at xs) ≡ length (take 16 (drop at xs)) + position_or_len p (drop 16 (drop at xs)) =
      ap (position_or_len p) (sym (take-append-drop 16 (drop at xs))) ∙ none_in_front (take 16 (drop at xs)) (drop 16 (drop at xs)) none in
      let after : position_or_len p (drop 16 (drop at xs)) ≡ position_or_len p (drop (at + 16) xs) = ap (position_or_len p) (search (drop-drop, arith)) in
      omega (arith, so_far, parts, step, after)

  -- a test of two places stays as both move on
  moved : (at n m : ℕ) → nat_lt (at + n) (at + m) ≡ nat_lt n m
  moved at n m = by (nat_lt n m) refl where
    by : (b : Bool) → nat_lt n m ≡ b → nat_lt (at + n) (at + m) ≡ b
    by true e = grind (arith, nat_tests)
    by false e = grind (arith, nat_tests)

  -- what is found after a place, counted from the start
  pub found_behind : (at place : ℕ) (xs ys : List ℕ) → length xs ≡ at + length ys → position_or_len p xs ≡ at + position_or_len p ys
      → position p ys ≡ Some place → Some (at + place) ≡ position p xs
  found_behind at place xs ys l h e =
      sym (ap₂ (λ n m. cond (nat_lt n m) (Some n) None) h l ∙ by (nat_lt (position_or_len p ys) (length ys)) (moved at (position_or_len p ys) (length ys)) e) where
        by : (b : Bool) → nat_lt (at + position_or_len p ys) (at + length ys) ≡ b → cond b (Some (position_or_len p ys)) None ≡ Some place
            → cond (nat_lt (at + position_or_len p ys) (at + length ys)) (Some (at + position_or_len p ys)) None ≡ Some (at + place)
        by true t s = let same : position_or_len p ys ≡ place = cc in ap (λ b. cond b (Some (at + position_or_len p ys)) None) t ∙ ap (λ n. Some (at + n)) same
        by false t s = cc

  pub none_behind : (at : ℕ) (xs ys : List ℕ) → length xs ≡ at + length ys → position_or_len p xs ≡ at + position_or_len p ys
      → position p ys ≡ None → None ≡ position p xs
  none_behind at xs ys l h e =
      sym (ap₂ (λ n m. cond (nat_lt n m) (Some n) None) h l ∙ by (nat_lt (position_or_len p ys) (length ys)) (moved at (position_or_len p ys) (length ys)) e) where
        by : (b : Bool) → nat_lt (at + position_or_len p ys) (at + length ys) ≡ b → cond b (Some (position_or_len p ys)) None ≡ None
            → cond (nat_lt (at + position_or_len p ys) (at + length ys)) (Some (at + position_or_len p ys)) None ≡ None
        by true t s = cc
        by false t s = ap (λ b. cond b (Some (at + position_or_len p ys)) None) t
