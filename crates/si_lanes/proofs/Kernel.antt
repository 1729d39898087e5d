-- What the comparison of two vectors says of their bits.
use Rattle.std.proofs.Common.{◌≡◌, ◌↔◌, ℕ, zero, suc, ◌+◌, ◌-◌, ◌*◌, ◌/◌, ◌%◌, ◌^◌, ◌<◌, ◌≤◌, Bool, true, false, cond, List, [], ◌∷◌, map, length, nat_eq, IsTrue, refl, sym, ◌∙◌, subst₂, arith}
use Rattle.std.proofs.lemmas.Bool.{eqb-true, eq-eqb}
use Rattle.std.proofs.lemmas.Nat.{and_comm}
use Rattle.std.proofs.lemmas.Simd.{bitmask_splat}
use Rattle.std.specs.Prelude.{bit_and, IsBitSet, get_or, eqb}
use Rattle.std.specs.Simd.Lanes.{zip2, Each1, mask_l, top}
use Rattle.std.proofs.Common.{Fits, w64}
use Rattle.si_lanes.specs.Rows.{IsSubset}
use Rattle.si_lanes.proofs.Bits.{AreBitsAmong, none_outside, bits_among}

-- the complement of a word
abbrev pub complement : ℕ → ℕ
complement y = 2 ^ 64 - 1 - y

-- what the words of a row have outside of those of another one
abbrev pub outside : List ℕ → List ℕ → List ℕ
outside xs ys = zip2 bit_and xs (map complement ys)

is_one : (b : Bool) → cond b 1 zero ≡ 1 → b ≡ true
is_one true e = refl
is_one false e = absurd (omega (arith, e))

at_most : (b : Bool) → cond b 1 zero ≤ 1
at_most true = omega arith
at_most false = omega arith

-- the word of a bit
by_words : (x0 x1 x2 x3 y0 y1 y2 y3 : ℕ) → AreBitsAmong x0 y0 → AreBitsAmong x1 y1 → AreBitsAmong x2 y2 → AreBitsAmong x3 y3
    → IsSubset (x0 ∷ x1 ∷ x2 ∷ x3 ∷ []) (y0 ∷ y1 ∷ y2 ∷ y3 ∷ [])
by_words x0 x1 x2 x3 y0 y1 y2 y3 h0 h1 h2 h3 b below = at (b / 64) (omega (arith, below)) where
  at : (j : ℕ) → j < 4 → IsBitSet (get_or (x0 ∷ x1 ∷ x2 ∷ x3 ∷ []) j 0) (b % 64) → IsBitSet (get_or (y0 ∷ y1 ∷ y2 ∷ y3 ∷ []) j 0) (b % 64)
  at zero l = h0 (b % 64) (omega arith)
  at (suc zero) l = h1 (b % 64) (omega arith)
  at (suc (suc zero)) l = h2 (b % 64) (omega arith)
  at (suc (suc (suc zero))) l = h3 (b % 64) (omega arith)
  at (suc (suc (suc (suc j)))) l = absurd (omega (arith, l))

-- a bit of a word
of_word : (xs ys : List ℕ) (j : ℕ) → j < 4 → IsSubset xs ys → AreBitsAmong (get_or xs j 0) (get_or ys j 0)
of_word xs ys j l h k m =
    let place : (64 * j + k) / 64 ≡ j = omega (arith, m) in
    let bit : (64 * j + k) % 64 ≡ k = omega (arith, m) in
    subst₂ (λ n i. IsBitSet (get_or xs n 0) i → IsBitSet (get_or ys n 0) i) place bit (h (64 * j + k) (omega (arith, l, m)))

four_ones : (b0 b1 b2 b3 : Bool) → mask_l (b0 ∷ b1 ∷ b2 ∷ b3 ∷ []) ≡ 15 → (b0 ≡ true) × (b1 ≡ true) × (b2 ≡ true) × (b3 ≡ true)
four_ones b0 b1 b2 b3 e =
    let m0 = at_most b0 in
    let m1 = at_most b1 in
    let m2 = at_most b2 in
    let m3 = at_most b3 in
    (is_one b0 (omega arith), is_one b1 (omega arith), is_one b2 (omega arith), is_one b3 (omega arith))

all_zero : (o0 o1 o2 o3 : ℕ) → mask_l (map (λ o. eqb o 0) (o0 ∷ o1 ∷ o2 ∷ o3 ∷ [])) ≡ 15 → (o0 ≡ 0) × (o1 ≡ 0) × (o2 ≡ 0) × (o3 ≡ 0)
all_zero o0 o1 o2 o3 e =
    let ones = four_ones (eqb o0 0) (eqb o1 0) (eqb o2 0) (eqb o3 0) e in
    (eqb-true o0 0 ones.0, eqb-true o1 0 ones.1, eqb-true o2 0 ones.2, eqb-true o3 0 ones.3)

all_zero_back : (o0 o1 o2 o3 : ℕ) → o0 ≡ 0 → o1 ≡ 0 → o2 ≡ 0 → o3 ≡ 0 → mask_l (map (λ o. eqb o 0) (o0 ∷ o1 ∷ o2 ∷ o3 ∷ [])) ≡ 15
all_zero_back zero zero zero zero a b c d = refl
all_zero_back (suc o) o1 o2 o3 a b c d = absurd (omega (arith, a))
all_zero_back zero (suc o) o2 o3 a b c d = absurd (omega (arith, b))
all_zero_back zero zero (suc o) o3 a b c d = absurd (omega (arith, c))
all_zero_back zero zero zero (suc o) a b c d = absurd (omega (arith, d))

-- the vector's test in numbers
abbrev mask_of : List ℕ → List ℕ → ℕ
mask_of xs ys = mask_l (map (top 63) (zip2 (λ a b. cond (eqb a b) (2 ^ 64 - 1) 0) (outside xs ys) (0 ∷ 0 ∷ 0 ∷ 0 ∷ []))) % 2 ^ 64

pub kernel : (xs ys : List ℕ) → length xs ≡ 4 → Each1 (Fits w64) xs → length ys ≡ 4 → Each1 (Fits w64) ys → IsTrue (nat_eq (mask_of xs ys) 15) ↔ IsSubset xs ys
kernel (x0 ∷ x1 ∷ x2 ∷ x3 ∷ []) (y0 ∷ y1 ∷ y2 ∷ y3 ∷ []) lx fx ly fy =
    let xs : List ℕ = x0 ∷ x1 ∷ x2 ∷ x3 ∷ [] in
    let ys : List ℕ = y0 ∷ y1 ∷ y2 ∷ y3 ∷ [] in
    let same : mask_of xs ys ≡ mask_l (map (λ o. eqb o 0) (outside xs ys)) = bitmask_splat w64 eqb (outside xs ys) 4 0 refl (omega arith) in
    let out : (x y : ℕ) → Fits w64 x → Fits w64 y → (bit_and x (complement y) ≡ 0) ↔ AreBitsAmong x y =
    λ x y p q. (
      (λ none. bits_among x y p.fits q.fits (and_comm (complement y) x ∙ none)),
      (λ among. and_comm x (complement y) ∙ none_outside x y p.fits q.fits among),
    ) in
    let o0 = out x0 y0 fx.0 fy.0 in
    let o1 = out x1 y1 fx.1.0 fy.1.0 in
    let o2 = out x2 y2 fx.1.1.0 fy.1.1.0 in
    let o3 = out x3 y3 fx.1.1.1.0 fy.1.1.1.0 in (
      (λ e.
          let zeros = all_zero _ _ _ _ (sym same ∙ eqb-true (mask_of xs ys) 15 e) in
          by_words x0 x1 x2 x3 y0 y1 y2 y3 (o0.0 zeros.0) (o1.0 zeros.1) (o2.0 zeros.2) (o3.0 zeros.3)),
      (λ h. eq-eqb (mask_of xs ys) 15 (same ∙ all_zero_back _ _ _ _
          (o0.1 (of_word xs ys 0 (omega arith) h)) (o1.1 (of_word xs ys 1 (omega arith) h)) (o2.1 (of_word xs ys 2 (omega arith) h)) (o3.1 (of_word xs ys 3 (omega arith) h)))),
    )
kernel [] ys lx fx ly fy = absurd (omega (arith, lx))
kernel (x0 ∷ []) ys lx fx ly fy = absurd (omega (arith, lx))
kernel (x0 ∷ x1 ∷ []) ys lx fx ly fy = absurd (omega (arith, lx))
kernel (x0 ∷ x1 ∷ x2 ∷ []) ys lx fx ly fy = absurd (omega (arith, lx))
kernel (x0 ∷ x1 ∷ x2 ∷ x3 ∷ x4 ∷ xs) ys lx fx ly fy = absurd (omega (arith, lx))
kernel (x0 ∷ x1 ∷ x2 ∷ x3 ∷ []) [] lx fx ly fy = absurd (omega (arith, ly))
kernel (x0 ∷ x1 ∷ x2 ∷ x3 ∷ []) (y0 ∷ []) lx fx ly fy = absurd (omega (arith, ly))
kernel (x0 ∷ x1 ∷ x2 ∷ x3 ∷ []) (y0 ∷ y1 ∷ []) lx fx ly fy = absurd (omega (arith, ly))
kernel (x0 ∷ x1 ∷ x2 ∷ x3 ∷ []) (y0 ∷ y1 ∷ y2 ∷ []) lx fx ly fy = absurd (omega (arith, ly))
kernel (x0 ∷ x1 ∷ x2 ∷ x3 ∷ []) (y0 ∷ y1 ∷ y2 ∷ y3 ∷ y4 ∷ ys) lx fx ly fy = absurd (omega (arith, ly))

-- nothing of the first word stands outside
pub first_within : (xs ys : List ℕ) → get_or xs 0 0 < 2 ^ 64 → get_or ys 0 0 < 2 ^ 64 → IsSubset xs ys
    → bit_and (get_or xs 0 0) (complement (get_or ys 0 0)) ≡ 0
first_within xs ys fx fy h =
    and_comm (get_or xs 0 0) (complement (get_or ys 0 0)) ∙ none_outside (get_or xs 0 0) (get_or ys 0 0) fx fy (of_word xs ys 0 (omega arith) h)
