-- Laws of the sums of neighbours.
use Rattle.std.proofs.Common.{suc, zero, ◌≡◌, ◌<◌, ◌≤◌, ◌+◌, ◌-◌, ◌*◌, ℕ, List, [], ◌∷◌, ◌++◌, length, take, replicate, refl, sym, ◌∙◌, ap, subst, arith}
use Rattle.std.specs.Prelude.{◌/◌, ◌%◌, slice_index_or, slice_set}
use Rattle.si_keyed.specs.Halves.{halves, sum_of}
use Rattle.si_keyed.specs.RanksFall.{length_halves}

half_more : (i : ℕ) → suc (suc i) / 2 ≡ suc (i / 2)
half_more i = omega arith

pub sum_halves : (xs : List ℕ) → sum_of (halves xs) ≡ sum_of xs
sum_halves [] = refl
sum_halves (x ∷ []) = refl
sum_halves (x ∷ y ∷ zs) = let more : sum_of (halves zs) ≡ sum_of zs = sum_halves zs in omega (arith, more)

-- a place in the list stands above half as far
pub half_inside : (xs : List ℕ) (i : ℕ) → i < length xs → i / 2 < length (halves xs)
half_inside [] i p = omega (arith, p)
half_inside (x ∷ []) i p = omega (arith, p)
half_inside (x ∷ y ∷ zs) zero p = omega arith
half_inside (x ∷ y ∷ zs) (suc zero) p = omega arith
half_inside (x ∷ y ∷ zs) (suc (suc i)) p = omega (arith, half_inside zs i (omega (arith, p)))

-- a change at a place changes its sum alone
pub halves_raised : (xs : List ℕ) (i : ℕ) → i < length xs
    → halves (slice_set xs i (slice_index_or xs i 0 + 1)) ≡ slice_set (halves xs) (i / 2) (slice_index_or (halves xs) (i / 2) 0 + 1)
halves_raised [] i p = absurd (omega (arith, p))
halves_raised (x ∷ []) zero p = refl
halves_raised (x ∷ []) (suc i) p = absurd (omega (arith, p))
halves_raised (x ∷ y ∷ zs) zero p = ap (λ n. n ∷ halves zs) (omega arith)
halves_raised (x ∷ y ∷ zs) (suc zero) p = ap (λ n. n ∷ halves zs) (omega arith)
halves_raised (x ∷ y ∷ zs) (suc (suc i)) p =
    subst
    (λ h. (x + y) ∷ halves (slice_set zs i (slice_index_or zs i 0 + 1)) ≡ slice_set ((x + y) ∷ halves zs) h (slice_index_or ((x + y) ∷ halves zs) h 0 + 1))
    (sym (half_more i))
    (ap (λ s. (x + y) ∷ s) (halves_raised zs i (omega (arith, p))))

pub halves_lowered : (xs : List ℕ) (i : ℕ) → i < length xs → 0 < slice_index_or xs i 0
    → halves (slice_set xs i (slice_index_or xs i 0 - 1)) ≡ slice_set (halves xs) (i / 2) (slice_index_or (halves xs) (i / 2) 0 - 1)
halves_lowered [] i p q = absurd (omega (arith, p))
halves_lowered (x ∷ []) zero p q = refl
halves_lowered (x ∷ []) (suc i) p q = absurd (omega (arith, p))
halves_lowered (x ∷ y ∷ zs) zero p q = ap (λ n. n ∷ halves zs) (omega (arith, q))
halves_lowered (x ∷ y ∷ zs) (suc zero) p q = ap (λ n. n ∷ halves zs) (omega (arith, q))
halves_lowered (x ∷ y ∷ zs) (suc (suc i)) p q =
    subst
    (λ h. (x + y) ∷ halves (slice_set zs i (slice_index_or zs i 0 - 1)) ≡ slice_set ((x + y) ∷ halves zs) h (slice_index_or ((x + y) ∷ halves zs) h 0 - 1))
    (sym (half_more i))
    (ap (λ s. (x + y) ∷ s) (halves_lowered zs i (omega (arith, p)) q))

pub half_some : (xs : List ℕ) (i : ℕ) → 0 < slice_index_or xs i 0 → 0 < slice_index_or (halves xs) (i / 2) 0
half_some [] i q = omega (arith, q)
half_some (x ∷ []) zero q = q
half_some (x ∷ []) (suc i) q = omega (arith, q)
half_some (x ∷ y ∷ zs) zero q = omega (arith, q)
half_some (x ∷ y ∷ zs) (suc zero) q = omega (arith, q)
half_some (x ∷ y ∷ zs) (suc (suc i)) q = subst (λ h. 0 < slice_index_or ((x + y) ∷ halves zs) h 0) (sym (half_more i)) (half_some zs i q)

-- one more place
pub halves_pushed_even : (xs : List ℕ) (k : ℕ) → length xs ≡ k + k → halves (xs ++ 1 ∷ []) ≡ halves xs ++ 1 ∷ []
halves_pushed_even [] k p = refl
halves_pushed_even (x ∷ []) k p = absurd (omega (arith, p))
halves_pushed_even (x ∷ y ∷ zs) zero p = absurd (omega (arith, p))
halves_pushed_even (x ∷ y ∷ zs) (suc k) p = ap (λ s. (x + y) ∷ s) (halves_pushed_even zs k (omega (arith, p)))

pub halves_pushed_odd : (xs : List ℕ) (k : ℕ) → length xs ≡ k + k + 1 → halves (xs ++ 1 ∷ []) ≡ slice_set (halves xs) k (slice_index_or (halves xs) k 0 + 1)
halves_pushed_odd [] k p = absurd (omega (arith, p))
halves_pushed_odd (x ∷ []) zero p = refl
halves_pushed_odd (x ∷ []) (suc k) p = absurd (omega (arith, p))
halves_pushed_odd (x ∷ y ∷ zs) zero p = absurd (omega (arith, p))
halves_pushed_odd (x ∷ y ∷ zs) (suc k) p = ap (λ s. (x + y) ∷ s) (halves_pushed_odd zs k (omega (arith, p)))

-- ---- sums of fronts
take_none : (n : ℕ) → take {A = ℕ} n [] ≡ []
take_none zero = refl
take_none (suc n) = refl

pub front_even : (xs : List ℕ) (k : ℕ) → sum_of (take (k + k) xs) ≡ sum_of (take k (halves xs))
front_even xs zero = refl
front_even [] (suc k) = ap sum_of (take_none (suc k + suc k))
front_even (x ∷ []) (suc k) =
    subst
    (λ n. sum_of (take n (x ∷ [])) ≡ x + sum_of (take k []))
    {x = suc (suc (k + k))}
    (omega arith)
    (ap (λ l. x + sum_of l) (take_none (suc (k + k)) ∙ sym (take_none k)))
front_even (x ∷ y ∷ zs) (suc k) =
    subst
    (λ n. sum_of (take n (x ∷ y ∷ zs)) ≡ sum_of (take (suc k) (halves (x ∷ y ∷ zs))))
    {x = suc (suc (k + k))}
    (omega arith)
    (let more : sum_of (take (k + k) zs) ≡ sum_of (take k (halves zs)) = front_even zs k in omega (arith, more))

pub front_odd : (xs : List ℕ) (k : ℕ) → k + k < length xs → sum_of (take (suc (k + k)) xs) ≡ sum_of (take k (halves xs)) + slice_index_or xs (k + k) 0
front_odd [] k p = absurd (omega (arith, p))
front_odd (x ∷ xs) zero p = omega arith
front_odd (x ∷ []) (suc k) p = absurd (omega (arith, p))
front_odd (x ∷ y ∷ zs) (suc k) p =
    subst
    (λ n. sum_of (take (suc n) (x ∷ y ∷ zs)) ≡ sum_of (take (suc k) (halves (x ∷ y ∷ zs))) + slice_index_or (x ∷ y ∷ zs) n 0)
    {x = suc (suc (k + k))}
    (omega arith)
    (let more : sum_of (take (suc (k + k)) zs) ≡ sum_of (take k (halves zs)) + slice_index_or zs (k + k) 0 = front_odd zs k (omega (arith, p)) in omega (arith, more))

-- the same by the half of a place
pub front_at_even : (xs : List ℕ) (n : ℕ) → n % 2 ≡ 0 → sum_of (take n xs) ≡ sum_of (take (n / 2) (halves xs))
front_at_even xs n p =
    subst (λ m. sum_of (take m xs) ≡ sum_of (take (n / 2) (halves xs))) {x = n / 2 + n / 2} (omega (arith, p)) (front_even xs (n / 2))

pub front_at_odd : (xs : List ℕ) (n : ℕ) → (n % 2 ≡ 0 → ⊥) → n ≤ length xs
    → sum_of (take n xs) ≡ sum_of (take (n / 2) (halves xs)) + slice_index_or xs (n - 1) 0
front_at_odd xs n odd p =
    subst
    (λ m. sum_of (take n xs) ≡ sum_of (take (n / 2) (halves xs)) + slice_index_or xs m 0)
    {x = n / 2 + n / 2}
    (omega (arith, odd))
    (subst
    (λ m. sum_of (take m xs) ≡ sum_of (take (n / 2) (halves xs)) + slice_index_or xs (n / 2 + n / 2) 0)
    {x = suc (n / 2 + n / 2)}
    (omega (arith, odd))
    (front_odd xs (n / 2) (omega (arith, odd, p))))

pub half_within : (xs : List ℕ) (n : ℕ) → n ≤ length xs → n / 2 ≤ length (halves xs)
half_within xs zero p = omega arith
half_within xs (suc n) p = omega (arith, half_inside xs n (omega (arith, p)))

-- a place above stands above two
pub double_inside : (xs : List ℕ) (k : ℕ) → k < length (halves xs) → k + k < length xs
double_inside [] k p = omega (arith, p)
double_inside (x ∷ []) k p = omega (arith, p)
double_inside (x ∷ y ∷ zs) zero p = omega arith
double_inside (x ∷ y ∷ zs) (suc k) p = omega (arith, double_inside zs k (omega (arith, p)))

-- the sum above two places
pub pair_sum : (xs : List ℕ) (k : ℕ) → slice_index_or (halves xs) k 0 ≡ slice_index_or xs (k + k) 0 + slice_index_or xs (suc (k + k)) 0
pair_sum [] zero = refl
pair_sum [] (suc k) = refl
pair_sum (x ∷ []) zero = omega arith
pair_sum (x ∷ []) (suc k) =
    subst (λ n. 0 ≡ slice_index_or (x ∷ []) n 0 + slice_index_or (x ∷ []) (suc n) 0) {x = suc (suc (k + k))} (omega arith) refl
pair_sum (x ∷ y ∷ zs) zero = refl
pair_sum (x ∷ y ∷ zs) (suc k) =
    subst
    (λ n. slice_index_or (halves zs) k 0 ≡ slice_index_or (x ∷ y ∷ zs) n 0 + slice_index_or (x ∷ y ∷ zs) (suc n) 0)
    {x = suc (suc (k + k))}
    (omega arith)
    (pair_sum zs k)

-- where something is, a place is
pub some_inside : (xs : List ℕ) (k n : ℕ) → n < slice_index_or xs k 0 → k < length xs
some_inside [] zero n p = omega (arith, p)
some_inside [] (suc k) n p = omega (arith, p)
some_inside (x ∷ xs) zero n p = omega arith
some_inside (x ∷ xs) (suc k) n p = omega (arith, some_inside xs k n p)

pub fewer_halves : (xs : List ℕ) → 2 ≤ length xs → length (halves xs) < length xs
fewer_halves xs p = omega (arith, p, length_halves xs)

pub total_front : (xs : List ℕ) (n : ℕ) → sum_of (take n xs) ≤ sum_of xs
total_front xs zero = omega arith
total_front [] (suc n) = omega arith
total_front (x ∷ xs) (suc n) = omega (arith, total_front xs n)

-- inside a list the default doesn't matter
pub at_any : (xs : List ℕ) (i d : ℕ) → i < length xs → slice_index_or xs i d ≡ slice_index_or xs i 0
at_any [] i d p = absurd (omega (arith, p))
at_any (x ∷ xs) zero d p = refl
at_any (x ∷ xs) (suc i) d p = at_any xs i d (omega (arith, p))

pub total_single : (xs : List ℕ) → length xs ≤ 1 → sum_of xs ≡ slice_index_or xs 0 0
total_single [] p = refl
total_single (x ∷ []) p = omega arith
total_single (x ∷ y ∷ zs) p = absurd (omega (arith, p))

-- ---- from a place above down to the first or the second of its two
twice : (k : ℕ) → k + k ≡ 2 * k
twice k = omega arith

pub first_before : (xs : List ℕ) (k rest number : ℕ) → sum_of (take k (halves xs)) + rest ≡ number → sum_of (take (2 * k) xs) + rest ≡ number
first_before xs k rest number p = subst (λ n. sum_of (take n xs) + rest ≡ number) (twice k) (omega (arith, p, front_even xs k))

pub second_before : (xs : List ℕ) (k rest number : ℕ) → k + k < length xs → sum_of (take k (halves xs)) + rest ≡ number
    → slice_index_or xs (2 * k) 0 ≤ rest → sum_of (take (2 * k + 1) xs) + (rest - slice_index_or xs (2 * k) 0) ≡ number
second_before xs k rest number inside p =
    subst
    (λ n. slice_index_or xs n 0 ≤ rest → sum_of (take (n + 1) xs) + (rest - slice_index_or xs n 0) ≡ number)
    (twice k)
    (λ q. subst
    (λ n. sum_of (take n xs) + (rest - slice_index_or xs (k + k) 0) ≡ number)
    {x = suc (k + k)}
    (omega arith)
    (omega (arith, p, q, front_odd xs k inside)))

pub second_there : (xs : List ℕ) (k rest : ℕ) → rest < slice_index_or (halves xs) k 0 → slice_index_or xs (2 * k) 0 ≤ rest
    → rest - slice_index_or xs (2 * k) 0 < slice_index_or xs (2 * k + 1) 0
second_there xs k rest p =
    subst
    (λ n. slice_index_or xs n 0 ≤ rest → rest - slice_index_or xs n 0 < slice_index_or xs (n + 1) 0)
    (twice k)
    (λ q. subst
    (λ n. rest - slice_index_or xs (k + k) 0 < slice_index_or xs n 0)
    {x = suc (k + k)}
    (omega arith)
    (omega (arith, p, q, pair_sum xs k)))

-- what is found among the sums of neighbours
pub found_above : (xs sums : List ℕ) (k rest number : ℕ) → sums ≡ halves xs → sum_of (take k sums) + rest ≡ number → rest < slice_index_or sums k 0
    → (sum_of (take k (halves xs)) + rest ≡ number) × (rest < slice_index_or (halves xs) k 0) × (k + k < length xs)
found_above xs sums k rest number is before there =
    let in_pair : rest < slice_index_or (halves xs) k 0 = subst (λ l. rest < slice_index_or l k 0) is there in (
      subst (λ l. sum_of (take k l) + rest ≡ number) is before,
      in_pair,
      double_inside xs k (some_inside (halves xs) k rest in_pair),
    )

-- ---- a change carried up
pub lowered_above : (xs above new : List ℕ) (i was : ℕ) → i < length xs → 0 < slice_index_or xs i 0 → above ≡ halves xs → was ≡ slice_index_or xs i was
    → new ≡ slice_set above (i / 2) (slice_index_or above (i / 2) 0 - 1) → new ≡ halves (slice_set xs i (was - 1))
lowered_above xs above new i was inside some is at done =
    done
    ∙ ap (λ l. slice_set l (i / 2) (slice_index_or l (i / 2) 0 - 1)) is
    ∙ sym (halves_lowered xs i inside some)
    ∙ ap (λ n. halves (slice_set xs i (n - 1))) (sym (at ∙ at_any xs i was inside))

pub raised_above : (xs above new : List ℕ) (i was : ℕ) → i < length xs → above ≡ halves xs → was ≡ slice_index_or xs i was
    → new ≡ slice_set above (i / 2) (slice_index_or above (i / 2) 0 + 1) → new ≡ halves (slice_set xs i (was + 1))
raised_above xs above new i was inside is at done =
    done
    ∙ ap (λ l. slice_set l (i / 2) (slice_index_or l (i / 2) 0 + 1)) is
    ∙ sym (halves_raised xs i inside)
    ∙ ap (λ n. halves (slice_set xs i (n + 1))) (sym (at ∙ at_any xs i was inside))

-- no count is more than all together
pub at_most_total : (xs : List ℕ) (i d : ℕ) → i < length xs → slice_index_or xs i d ≤ sum_of xs
at_most_total [] i d p = absurd (omega (arith, p))
at_most_total (x ∷ xs) zero d p = omega arith
at_most_total (x ∷ xs) (suc i) d p = omega (arith, at_most_total xs i d (omega (arith, p)))

pub half_of_odd : (xs : List ℕ) → (length xs % 2 ≡ 0 → ⊥) → length xs / 2 < length (halves xs)
half_of_odd [] odd = absurd (odd refl)
half_of_odd (x ∷ []) odd = omega arith
half_of_odd (x ∷ y ∷ zs) odd = omega (arith, half_of_odd zs (λ even. odd (omega (arith, even))))

pub pushed_odd : (xs above new : List ℕ) → above ≡ halves xs → (length xs % 2 ≡ 0 → ⊥)
    → new ≡ slice_set above (length xs / 2) (slice_index_or above (length xs / 2) 0 + 1) → new ≡ halves (xs ++ 1 ∷ [])
pushed_odd xs above new is odd done =
    done ∙ ap (λ l. slice_set l (length xs / 2) (slice_index_or l (length xs / 2) 0 + 1)) is ∙ sym (halves_pushed_odd xs (length xs / 2) (omega (arith, odd)))

pub pushed_even : (xs above new : List ℕ) → above ≡ halves xs → length xs % 2 ≡ 0 → new ≡ above ++ 1 ∷ [] → new ≡ halves (xs ++ 1 ∷ [])
pushed_even xs above new is even done =
    done ∙ ap (λ l. l ++ 1 ∷ []) is ∙ sym (halves_pushed_even xs (length xs / 2) (omega (arith, even)))

-- shorter lists have fewer sums
pub halves_shorter : (xs ys : List ℕ) → length xs ≤ length ys → length (halves xs) ≤ length (halves ys)
halves_shorter [] ys p = omega arith
halves_shorter (x ∷ xs) [] p = absurd (omega (arith, p))
halves_shorter (x ∷ []) (y ∷ []) p = omega arith
halves_shorter (x ∷ []) (y ∷ z ∷ ys) p = omega arith
halves_shorter (x ∷ w ∷ xs) (y ∷ []) p = absurd (omega (arith, p))
halves_shorter (x ∷ w ∷ xs) (y ∷ z ∷ ys) p = omega (arith, halves_shorter xs ys (omega (arith, p)))

pub total_ones : (n : ℕ) → sum_of (replicate n 1) ≡ n
total_ones zero = refl
total_ones (suc n) = omega (arith, total_ones n)
