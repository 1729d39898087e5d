-- Sums of neighbours that are written one after the other.
use Rattle.std.proofs.Common.{suc, zero, ◌≡◌, ◌<◌, ◌≤◌, ◌+◌, ℕ, List, [], ◌∷◌, ◌++◌, length, replicate, refl, sym, ◌∙◌, ap, subst, arith, append_assoc, length-append}
use Rattle.std.proofs.lemmas.List.{append-nil}
use Rattle.si_keyed.specs.Halves.{halves, sum_of}

-- these sums were written, and those of the rest are still to come
pub record IsPut (counts rest sums : List ℕ) (room was : ℕ) : Type 0 where
  pub whole : sums ++ halves rest ≡ halves counts
  pub small : sum_of rest ≤ sum_of counts
  pub same : was ≤ room

pub put_none : (counts : List ℕ) (sums : List ℕ) (room was : ℕ) → sums ≡ [] → was ≤ room → IsPut counts counts sums room was
put_none counts sums room was is same = record { whole = ap (λ s. s ++ halves counts) is; small = omega arith; same = same }

pub put_next : (counts rest sums more new : List ℕ) (sum room was now : ℕ) → IsPut counts rest sums room was
    → halves rest ≡ sum ∷ halves more → sum_of more ≤ sum_of rest → new ≡ sums ++ sum ∷ [] → room ≤ now → IsPut counts more new now was
put_next counts rest sums more new sum room was now h is fewer pushed kept = record {
  whole = ap (λ s. s ++ halves more) pushed ∙ append_assoc sums (sum ∷ []) (halves more) ∙ ap (λ s. sums ++ s) (sym is) ∙ h.whole;
  small = omega (arith, fewer, h.small);
  same = omega (arith, kept, h.same);
}

-- there is room for one more
pub put_room : (counts rest sums more : List ℕ) (sum room was : ℕ) → IsPut counts rest sums room was → halves rest ≡ sum ∷ halves more
    → length (halves counts) ≤ was → length sums < room
put_room counts rest sums more sum room was h is enough =
    omega (arith, enough, h.same, ap length h.whole, ap length is, length-append sums (halves rest))

pub put_all : (counts rest sums : List ℕ) (room was : ℕ) → IsPut counts rest sums room was → halves rest ≡ [] → sums ≡ halves counts
put_all counts rest sums room was h none = sym (append-nil sums) ∙ ap (λ s. sums ++ s) (sym none) ∙ h.whole

-- ---- ones
pub record AreOnes (counts : List ℕ) (count : ℕ) (room was : ℕ) : Type 0 where
  pub ones : counts ≡ replicate count 1
  pub same : was ≤ room

abbrev ones : ℕ → List ℕ
ones n = replicate n 1

replicate_more : (n : ℕ) → ones n ++ 1 ∷ [] ≡ ones (suc n)
replicate_more zero = refl
replicate_more (suc n) = ap (λ l. 1 ∷ l) (replicate_more n)

pub one_more : (counts new : List ℕ) (count room was now : ℕ) → AreOnes counts count room was → new ≡ counts ++ 1 ∷ [] → room ≤ now
    → AreOnes new (count + 1) now was
one_more counts new count room was now h pushed kept = record {
  ones = pushed ∙ ap (λ l. l ++ 1 ∷ []) h.ones ∙ subst (λ n. ones count ++ 1 ∷ [] ≡ ones n) {x = suc count} (omega arith) (replicate_more count);
  same = omega (arith, kept, h.same);
}

length_ones : (n : ℕ) → length (ones n) ≡ n
length_ones zero = refl
length_ones (suc n) = omega (arith, length_ones n)

pub ones_room : (counts : List ℕ) (count room was places : ℕ) → AreOnes counts count room was → count < places → places ≤ was → length counts < room
ones_room counts count room was places h p q = omega (arith, p, q, h.same, ap length h.ones, length_ones count)

pub ones_length : (counts : List ℕ) (n : ℕ) → counts ≡ replicate n 1 → length counts ≡ n
ones_length counts n h = ap length h ∙ length_ones n
