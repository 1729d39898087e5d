-- Places that are sorted, no two of them the same, rise.
use Rattle.std.proofs.Common.{◌≡◌, inl, inr, ℕ, suc, ◌+◌, ◌<◌, Bool, true, false, ◌&&◌, List, [], ◌∷◌, get_or, Ordering, Less, Equal, Greater, is_lt, nat_cmp, refl, sym, ◌∙◌, subst, arith}
use Rattle.std.specs.List.{IsDistinct}
use Rattle.std.specs.List.Sorted.{IsPermutation}
use Rattle.std.specs.Ordering.{MatchOrdering, ordering_then}
use Rattle.std.proofs.Math.Dec.{eqb}
use Rattle.std.proofs.lemmas.Bool.{cases_eq, eq-eqb, ne_eqb, and_from}
use Rattle.std.proofs.lemmas.Cmp.{ranked}
use Rattle.std.proofs.lemmas.Map.Keys.{IsDistinct-IsPermutation, IsDistinct-head, IsDistinct-tail}
use Rattle.si_defs.proofs.ListLaws.{all_weaker}
use Rattle.si_index.specs.declared.wanted.Wanted.{Wanted}
use Rattle.si_index.specs.Gathering.{IsLower, IsBefore, Rise}
use Rattle.si_index.specs.Sorting.{compares, AreSorted}

-- ---- the order
abbrev pub is_same : Wanted → Wanted → Bool
is_same a b = eqb a.slot b.slot && eqb a.entry b.entry

pub lower_then : (a b c : ℕ × ℕ) → IsLower a b → IsLower b c → IsLower a c
lower_then a b c (inl h) (inl k) = inl (omega (arith, h, k))
lower_then a b c (inl h) (inr k) = inl (omega (arith, h, k.0))
lower_then a b c (inr h) (inl k) = inl (omega (arith, h.0, k))
lower_then a b c (inr h) (inr k) = inr (h.0 ∙ k.0, omega (arith, h.1, k.1))

-- what isn't above, and isn't the same, stands before
stands_before : (a b : Wanted) → is_lt (compares b a) ≡ false → is_same a b ≡ false → IsBefore a b
stands_before a b sorted differ = by (nat_cmp b.slot a.slot) (nat_cmp b.entry a.entry) (nat_cmp b.leaf a.leaf) (ranked b.slot a.slot _ refl) (ranked b.entry a.entry _ refl) sorted where
  same : b.slot ≡ a.slot → b.entry ≡ a.entry → is_same a b ≡ true
  same p e = and_from (eqb a.slot b.slot) (eqb a.entry b.entry) (eq-eqb a.slot b.slot (sym p)) (eq-eqb a.entry b.entry (sym e))

  by : (p e l : Ordering) → MatchOrdering p (b.slot < a.slot) (b.slot ≡ a.slot) (a.slot < b.slot)
      → MatchOrdering e (b.entry < a.entry) (b.entry ≡ a.entry) (a.entry < b.entry) → is_lt (ordering_then p (ordering_then e l)) ≡ false → IsBefore a b
  by Less e l of_p of_e above = absurd (let wrong : true ≡ false = above in cc)
  by Equal Less l of_p of_e above = absurd (let wrong : true ≡ false = above in cc)
  by Equal Equal l of_p of_e above = absurd (let wrong : true ≡ false = sym (same of_p of_e) ∙ differ in cc)
  by Equal Greater l of_p of_e above = inr (sym of_p, of_e)
  by Greater e l of_p of_e above = inl of_p

-- ---- sorted places
rest_sorted : (w : Wanted) (ws : List Wanted) → AreSorted (w ∷ ws) → AreSorted ws
rest_sorted w ws h k d low high =
    let turn : suc k + 1 ≡ suc (k + 1) = omega arith in
    subst (λ n. is_lt (compares (get_or (w ∷ ws) n d) (get_or ws k d)) ≡ false) turn (h (suc k) d (omega arith) (omega (arith, high)))

pub sorted_rise : (ws : List Wanted) → AreSorted ws → IsDistinct is_same ws → Rise ws
sorted_rise [] sorted distinct = tt
sorted_rise (w ∷ []) sorted distinct = (tt, tt)
sorted_rise (w ∷ v ∷ ws) sorted distinct =
    let rest = sorted_rise (v ∷ ws) (rest_sorted w (v ∷ ws) sorted) (IsDistinct-tail is_same w (v ∷ ws) distinct) in
    let next : IsBefore w v = stands_before w v (sorted 0 w (omega arith) (omega arith)) (IsDistinct-head is_same w (v ∷ ws) distinct).0 in
    ((next, all_weaker (IsBefore v) (IsBefore w) ws (λ u. lower_then (w.slot, w.entry) (v.slot, v.entry) (u.slot, u.entry) next) rest.0), rest)

flips : (a b : Wanted) → is_same a b ≡ is_same b a
flips a b = λ i. eqb_flips a.slot b.slot i && eqb_flips a.entry b.entry i where
  eqb_flips : (m n : ℕ) → eqb m n ≡ eqb n m
  eqb_flips m n =
      elim (cases_eq m n) [
        | inl same ↦ eq-eqb m n same ∙ sym (eq-eqb n m (sym same))
        | inr differ ↦ ne_eqb m n differ ∙ sym (ne_eqb n m (λ e. differ (sym e)))
      ]

pub distinct_sorted : (ws vs : List Wanted) → IsPermutation ws vs → IsDistinct is_same ws → IsDistinct is_same vs
distinct_sorted ws vs = IsDistinct-IsPermutation is_same flips ws vs
