-- When a word's bits are among those of another one.
use Rattle.std.proofs.Common.{◌≡◌, ◌↔◌, ℕ, zero, suc, ◌+◌, ◌-◌, ◌/◌, ◌%◌, ◌^◌, ◌<◌, min, refl, sym, ap, ◌∙◌, arith}
use Rattle.std.specs.Prelude.{bit_and, IsBitSet}
use Rattle.std.proofs.lemmas.Nat.{and_shr, and_mod, and_mask, and-not, and_le_r, shr-shr, bit_set_by_shift}

-- the bit with this number
abbrev pub digit : ℕ → ℕ → ℕ
digit n k = n / 2 ^ k % 2

set_digit : (n k : ℕ) → IsBitSet n k ↔ (digit n k ≡ 1)
set_digit n k = (
  (λ s. sym (and_mask (n / 2 ^ k) 1) ∙ (bit_set_by_shift n k).1 s),
  (λ e. (bit_set_by_shift n k).0 (and_mask (n / 2 ^ k) 1 ∙ e)),
)

low_and : (d e : ℕ) → d < 2 → e < 2 → bit_and d e ≡ min d e
low_and zero zero p q = refl
low_and zero (suc zero) p q = refl
low_and (suc zero) zero p q = refl
low_and (suc zero) (suc zero) p q = refl
low_and (suc (suc d)) e p q = absurd (omega arith)
low_and zero (suc (suc e)) p q = absurd (omega arith)
low_and (suc zero) (suc (suc e)) p q = absurd (omega arith)

digit_and : (a b k : ℕ) → digit (bit_and a b) k ≡ min (digit a k) (digit b k)
digit_and a b k =
    ap (λ n. n % 2) (and_shr a b k) ∙ and_mod (a / 2 ^ k) (b / 2 ^ k) 1
    ∙ low_and (digit a k) (digit b k) (omega arith) (omega arith)

digit_half : (n k : ℕ) → digit (n / 2) k ≡ digit n (suc k)
digit_half n k = ap (λ m. m % 2) (shr-shr n 1 k ∙ ap (λ j. n / 2 ^ j) (let e : 1 + k ≡ suc k = omega arith in e))

-- words with the same bits are the same
same_digits : (w x y : ℕ) → x < 2 ^ w → y < 2 ^ w → ((k : ℕ) → k < w → digit x k ≡ digit y k) → x ≡ y
same_digits zero x y p q h = omega (arith, p, q)
same_digits (suc w) x y p q h =
    let low : x % 2 ≡ y % 2 = ap (λ n. n % 2) (let e : x ≡ x / 2 ^ 0 = omega arith in e) ∙ h 0 (omega arith) ∙ ap (λ n. n % 2) (let e : y / 2 ^ 0 ≡ y = omega arith in e) in
    let high : x / 2 ≡ y / 2 = same_digits w (x / 2) (y / 2) (omega (arith, p)) (omega (arith, q)) (λ k l. digit_half x k ∙ h (suc k) (omega (arith, l)) ∙ sym (digit_half y k)) in
    omega (arith, low, high)

-- nothing of the word stands outside of the other one
abbrev pub AreBitsAmong : ℕ → ℕ → Type 0
AreBitsAmong a b = (k : ℕ) → k < 64 → IsBitSet a k → IsBitSet b k

inside : (a b : ℕ) → a < 2 ^ 64 → b < 2 ^ 64 → AreBitsAmong a b → bit_and b a ≡ a
inside a b p q h = same_digits 64 (bit_and b a) a (omega (arith, and_le_r b a, p)) p (λ k l. digit_and b a k ∙ by k l (digit a k) refl) where
  by : (k : ℕ) → k < 64 → (d : ℕ) → d ≡ digit a k → min (digit b k) (digit a k) ≡ digit a k
  by k l zero e = omega (arith, e)
  by k l (suc d) e =
      let one : digit a k ≡ 1 = omega (arith, e) in
      let other : digit b k ≡ 1 = (set_digit b k).0 (h k l ((set_digit a k).1 one)) in
      omega (arith, one, other)

pub none_outside : (a b : ℕ) → a < 2 ^ 64 → b < 2 ^ 64 → AreBitsAmong a b → bit_and (2 ^ 64 - 1 - b) a ≡ 0
none_outside a b p q h = omega (arith, and-not 64 b a q p, inside a b p q h)

pub bits_among : (a b : ℕ) → a < 2 ^ 64 → b < 2 ^ 64 → bit_and (2 ^ 64 - 1 - b) a ≡ 0 → AreBitsAmong a b
bits_among a b p q none k l s =
    let same : bit_and b a ≡ a = omega (arith, and-not 64 b a q p, none) in
    let one : digit a k ≡ 1 = (set_digit a k).0 s in
    let both : min (digit b k) (digit a k) ≡ digit a k = sym (digit_and b a k) ∙ ap (λ n. digit n k) same in
    (set_digit b k).1 (omega (arith, one, both))
