-- The signature that the slots are.
use Rattle.std.proofs.Common.{◌≡◌, ◌⊎◌, inl, inr, ℕ, zero, suc, ◌+◌, ◌*◌, ◌<◌, ◌≤◌, List, [], ◌∷◌, Option, Some, None, length, refl, sym, ap, ◌∙◌, subst, arith}
use Rattle.std.specs.Prelude.{slice_index_or}
use Rattle.si_defs.specs.Substitutions.{IsAmong}
use Rattle.si_state.specs.Signatures.{Used, Signature, total}
use Rattle.si_sign.specs.Uses.{used_at, seen_from}
use Rattle.si_sign.specs.declared.uses.CountedSymbol.{CountedSymbol}

abbrev pub Slots : Type 0
Slots = List (Option CountedSymbol)

abbrev pub at : Slots → ℕ → Option CountedSymbol
at xs k = slice_index_or xs k None

-- ---- its members are the slots' symbols
pub among_seen : (n : ℕ) (xs : Slots) (k : ℕ) (c : CountedSymbol) → at xs k ≡ Some c → IsAmong (seen_from n xs) (used_at (n + k) c)
among_seen n [] k c h = cc
among_seen n (None ∷ xs) zero c h = cc
among_seen n (None ∷ xs) (suc k) c h =
    let e : 1 + n + k ≡ n + suc k = omega arith in
    subst (λ m. IsAmong (seen_from (1 + n) xs) (used_at m c)) e (among_seen (1 + n) xs k c h)
among_seen n (Some d ∷ xs) zero c h =
    let e : n ≡ n + 0 = omega arith in
    let same : d ≡ c = cc in
    inl (λ i. used_at (e i) (same i))
among_seen n (Some d ∷ xs) (suc k) c h =
    let e : 1 + n + k ≡ n + suc k = omega arith in
    inr (subst (λ m. IsAmong (seen_from (1 + n) xs) (used_at m c)) e (among_seen (1 + n) xs k c h))

pub record Slot (n : ℕ) (xs : Slots) (u : Used) : Type 0 where
  pub key : ℕ
  pub counted : CountedSymbol
  pub there : at xs key ≡ Some counted
  pub is : used_at (n + key) counted ≡ u

later : (n : ℕ) (x : Option CountedSymbol) (xs : Slots) (u : Used) → Slot (1 + n) xs u → Slot n (x ∷ xs) u
later n x xs u s =
    let e : 1 + n + s.key ≡ n + suc s.key = omega arith in
    record { key = suc s.key; counted = s.counted; there = s.there; is = subst (λ m. used_at m s.counted ≡ u) e s.is }

pub seen_among : (n : ℕ) (xs : Slots) (u : Used) → IsAmong (seen_from n xs) u → Slot n xs u
seen_among n [] u h = absurd h
seen_among n (None ∷ xs) u h = later n None xs u (seen_among (1 + n) xs u h)
seen_among n (Some d ∷ xs) u (inl is) =
    let e : n ≡ n + 0 = omega arith in
    record { key = 0; counted = d; there = refl; is = subst (λ m. used_at m d ≡ u) e is }
seen_among n (Some d ∷ xs) u (inr h) = later n (Some d) xs u (seen_among (1 + n) xs u h)

-- ---- its numbers rise
abbrev pub IsRising : ℕ → Signature → Type 0
IsRising n [] = Unit {0}
IsRising n (u ∷ us) = (n ≤ u.number) × IsRising (1 + u.number) us

rising_lower : (m n : ℕ) (us : Signature) → m ≤ n → IsRising n us → IsRising m us
rising_lower m n [] h r = tt
rising_lower m n (u ∷ us) h r = (omega (arith, r.0), r.1)

pub seen_rising : (n : ℕ) (xs : Slots) → IsRising (2 * n) (seen_from n xs)
seen_rising n [] = tt
seen_rising n (None ∷ xs) = rising_lower (2 * n) (2 * (1 + n)) (seen_from (1 + n) xs) (omega arith) (seen_rising (1 + n) xs)
seen_rising n (Some c ∷ xs) = (omega arith, rising_lower (1 + 2 * n) (2 * (1 + n)) (seen_from (1 + n) xs) (omega arith) (seen_rising (1 + n) xs))

rising_above : (n : ℕ) (us : Signature) (u : Used) → IsRising n us → IsAmong us u → n ≤ u.number
rising_above n [] u r h = absurd h
rising_above n (v ∷ us) u r (inl e) = subst (λ (w : Used). n ≤ w.number) e r.0
rising_above n (v ∷ us) u r (inr h) = omega (arith, r.0, rising_above (1 + v.number) us u r.1 h)

tail_of : (v u : Used) (us : Signature) → 1 + v.number ≤ u.number → (v ≡ u) ⊎ IsAmong us u → IsAmong us u
tail_of v u us h (inl e) = absurd (omega (arith, h, ap (λ (w : Used). w.number) e))
tail_of v u us h (inr k) = k

-- Two of which the numbers rise are equal where they have the same members.
pub same_rising : (m n : ℕ) (xs ys : Signature) → IsRising m xs → IsRising n ys
    → ((u : Used) → IsAmong xs u → IsAmong ys u) → ((u : Used) → IsAmong ys u → IsAmong xs u) → xs ≡ ys
same_rising m n [] [] r q f g = refl
same_rising m n [] (y ∷ ys) r q f g = absurd (g y (inl refl))
same_rising m n (x ∷ xs) [] r q f g = absurd (f x (inl refl))
same_rising m n (x ∷ xs) (y ∷ ys) r q f g =
    let rest : x ≡ y → xs ≡ ys = λ e. same_rising (1 + x.number) (1 + y.number) xs ys r.1 q.1
    (λ u h. tail_of y u ys (subst (λ (w : Used). 1 + w.number ≤ u.number) e (rising_above (1 + x.number) xs u r.1 h)) (f u (inr h)))
    (λ u h. tail_of x u xs (subst (λ (w : Used). 1 + w.number ≤ u.number) (sym e) (rising_above (1 + y.number) ys u q.1 h)) (g u (inr h))) in
    by (f x (inl refl)) (g y (inl refl)) rest where
      by : (y ≡ x) ⊎ IsAmong ys x → (x ≡ y) ⊎ IsAmong xs y → (x ≡ y → xs ≡ ys) → x ∷ xs ≡ y ∷ ys
      by (inl e) k rest = λ i. sym e i ∷ rest (sym e) i
      by (inr h) (inl e) rest = λ i. e i ∷ rest e i
      by (inr h) (inr k) rest = absurd (omega (arith, rising_above (1 + y.number) ys x q.1 h, rising_above (1 + x.number) xs y r.1 k))

-- ---- all its uses, by the keys below a bound
abbrev pub uses_in : Option CountedSymbol → ℕ
uses_in None = 0
uses_in (Some c) = c.uses

abbrev summed : ℕ → (ℕ → ℕ) → ℕ
summed zero f = 0
summed (suc m) f = f 0 + summed m (λ k. f (suc k))

summed_none : (m : ℕ) → summed m (λ k. 0) ≡ 0
summed_none zero = refl
summed_none (suc m) = omega (arith, summed_none m)

summed_same : (m : ℕ) (f g : ℕ → ℕ) → ((k : ℕ) → g k ≡ f k) → summed m g ≡ summed m f
summed_same zero f g h = refl
summed_same (suc m) f g h = omega (arith, h 0, summed_same m (λ k. f (suc k)) (λ k. g (suc k)) (λ k. h (suc k)))

total_summed : (n : ℕ) (xs : Slots) (m : ℕ) → length xs ≤ m → total (seen_from n xs) ≡ summed m (λ k. uses_in (at xs k))
total_summed n [] m h = sym (summed_none m)
total_summed n (x ∷ xs) zero h = absurd (omega arith)
total_summed n (None ∷ xs) (suc m) h =
    let z : summed m (λ k. uses_in (at xs k)) ≡ 0 + summed m (λ k. uses_in (at xs k)) = omega arith in
    total_summed (1 + n) xs m (omega arith) ∙ z
total_summed n (Some c ∷ xs) (suc m) h = ap (λ t. c.uses + t) (total_summed (1 + n) xs m (omega arith))

summed_changes : (m k : ℕ) (f g : ℕ → ℕ) → k < m → ((j : ℕ) → (j ≡ k → ⊥) → g j ≡ f j) → summed m g + f k ≡ summed m f + g k
summed_changes zero k f g h same = absurd (omega arith)
summed_changes (suc m) zero f g h same =
    omega (arith, summed_same m (λ j. f (suc j)) (λ j. g (suc j)) (λ j. same (suc j) (λ e. omega (arith, e))))
summed_changes (suc m) (suc k) f g h same =
    omega (
      arith,
      same 0 (λ e. omega (arith, e)),
      summed_changes m k (λ j. f (suc j)) (λ j. g (suc j)) (omega arith) (λ j apart. same (suc j) (λ e. apart (omega (arith, e)))),
    )

-- where one slot changes
pub total_changes : (xs ys : Slots) (k : ℕ) → ((j : ℕ) → (j ≡ k → ⊥) → at ys j ≡ at xs j)
    → total (seen_from 0 ys) + uses_in (at xs k) ≡ total (seen_from 0 xs) + uses_in (at ys k)
total_changes xs ys k same =
    let m = length xs + length ys + k + 1 in
    omega (
      arith,
      total_summed 0 xs m (omega arith),
      total_summed 0 ys m (omega arith),
      summed_changes m k (λ j. uses_in (at xs j)) (λ j. uses_in (at ys j)) (omega arith) (λ j apart. ap uses_in (same j apart)),
    )
