-- There are no more pairs of spots than the square of the number of cells.
use Rattle.std.proofs.Common.{◌≡◌, ℕ, suc, ◌+◌, ◌*◌, ◌<◌, ◌≤◌, inl, inr, true, false, List, [], ◌∷◌, length, map, refl, sym, ◌∙◌, ap, subst, arith, Option, None, Some}
use Rattle.std.proofs.Math.Nat.{mul-le-mul_right, suc-mul}
use Rattle.std.proofs.lemmas.List.{length-map}
use Rattle.std.proofs.lemmas.Bool.{cases_lt, cases_Bool, eq-eqb}
use Rattle.std.proofs.lemmas.Bool.Decides.{eqb_tells}
use Rattle.std.proofs.lemmas.Map.Steps.{length-le_from_distinct_below}
use Rattle.std.specs.Prelude.{◌==◌, slice_get}
use Rattle.std.specs.Borrow.{Bor}
use Rattle.std.specs.List.{AllByRecursion, IsDistinct, list_any}
use Rattle.si_defs.proofs.ListLaws.{all_weaker}
use Rattle.si_flat.specs.declared.Cell.{Cell}
use Rattle.si_trail.specs.Trails.{value_at}
use Rattle.si_unify.specs.declared.spots.Spot.{Spot}
use Rattle.si_unify.specs.declared.spots.SpotPair.{SpotPair}
use Rattle.si_unify.specs.declared.spots.Question.{Question}
use Rattle.si_unify.specs.Solving.{Pairs, slot_count, IsBinding}
use Rattle.si_unify.specs.Spots.{cells_now, text, same_spots, IsSpot, IsApart, IsSoundQuestion, IsAdded, HasNoRoomFor, ArePairs}
use Rattle.si_unify.specs.Rooms.{AreNoLongerThan, most_spots}
use Rattle.si_unify.proofs.Places.{value_holds, inside}
use Rattle.si_unify.proofs.Meeting.{same_pair}

-- ---- a pair that is there
pair_there : (p : SpotPair) (ks : List SpotPair) → list_any (same_spots p) ks ≡ true → (place : ℕ) × (slice_get ks place ≡ Some p)
pair_there p [] e = let bad : false ≡ true = e in cc
pair_there p (k ∷ ks) e =
    elim (cases_Bool (same_spots p k)) [
      | inl same ↦ (0, ap Some (same_pair p.left p.right k same))
      | inr other ↦ let later = pair_there p ks (rw other at e) in (suc later.0, later.1)
    ]

pub added_before : (p : SpotPair) (ks : List SpotPair) → list_any (same_spots p) ks ≡ true → IsAdded ks p ks
added_before p ks e = let there = pair_there p ks e in record { more = inl refl; place = there.0; there = there.1 }

-- ---- numbers in two digits
module _ (n : ℕ) where
  abbrev number : ℕ → ℕ → ℕ
  number a b = a * n + b

  number_below : (m a b : ℕ) → a < m → b < n → number a b < m * n
  number_below m a b a_less b_less =
      let rows = mul-le-mul_right {m = a + 1} {n = m} n (omega (arith, a_less)) in
      omega (arith, rows, suc-mul a n, b_less)

  first_same : (a b c d : ℕ) → b < n → d < n → number a b ≡ number c d → a ≡ c
  first_same a b c d b_less d_less e =
      elim (cases_lt a c) [
        | inl less ↦
            let rows = mul-le-mul_right {m = a + 1} {n = c} n (omega (arith, less)) in
            absurd (omega (arith, rows, suc-mul a n, b_less, e))
        | inr no_less ↦
            elim (cases_lt c a) [
              | inl less ↦
                  let rows = mul-le-mul_right {m = c + 1} {n = a} n (omega (arith, less)) in
                  absurd (omega (arith, rows, suc-mul c n, d_less, e))
              | inr le ↦ omega (arith, no_less, le)
            ]
      ]

  second_same : (a b c d : ℕ) → a ≡ c → number a b ≡ number c d → b ≡ d
  second_same a b c d e same = omega (arith, ap (λ k. k * n) e, same)

-- ---- spots and pairs of spots as numbers
spots_self : (p : SpotPair) → same_spots p p ≡ true
spots_self p = rw (eq-eqb p.left.base p.left.base refl, eq-eqb p.left.at p.left.at refl, eq-eqb p.right.base p.right.base refl, eq-eqb p.right.at p.right.at refl) refl

module _ (count n : ℕ) where
  abbrev IsIn : Spot → Type 0
  IsIn s = (s.base < count + 2) × (s.at < n)

  abbrev AreIn : SpotPair → Type 0
  AreIn p = IsIn p.left × IsIn p.right

  abbrev spot_number : Spot → ℕ
  spot_number s = number n s.base s.at

  abbrev pair_number : SpotPair → ℕ
  pair_number p = number (most_spots count n) (spot_number p.left) (spot_number p.right)

  spot_below : (s : Spot) → IsIn s → spot_number s < most_spots count n
  spot_below s h = number_below n (count + 2) s.base s.at h.0 h.1

  pair_below : (p : SpotPair) → AreIn p → pair_number p < most_spots count n * most_spots count n
  pair_below p h = number_below (most_spots count n) (most_spots count n) (spot_number p.left) (spot_number p.right) (spot_below p.left h.0) (spot_below p.right h.1)

  same_spot_number : (a b : Spot) → IsIn a → IsIn b → spot_number a ≡ spot_number b → a ≡ b
  same_spot_number a b a_in b_in e =
      let base : a.base ≡ b.base = first_same n a.base a.at b.base b.at a_in.1 b_in.1 e in
      let at : a.at ≡ b.at = second_same n a.base a.at b.base b.at base e in
      let make : ℕ → ℕ → Spot = λ m k. record { base = m; at = k } in
      ap (λ m. make m a.at) base ∙ ap (make b.base) at

  same_pair_number : (p k : SpotPair) → AreIn p → AreIn k → pair_number p ≡ pair_number k → same_spots p k ≡ true
  same_pair_number p k p_in k_in e =
      let left : spot_number p.left ≡ spot_number k.left =
      first_same (most_spots count n) (spot_number p.left) (spot_number p.right) (spot_number k.left) (spot_number k.right) (spot_below p.right p_in.1) (spot_below k.right k_in.1) e in
      let right : spot_number p.right ≡ spot_number k.right =
      second_same (most_spots count n) (spot_number p.left) (spot_number p.right) (spot_number k.left) (spot_number k.right) left e in
      let make : Spot → Spot → SpotPair = λ a b. record { left = a; right = b } in
      let same : p ≡ k = ap (λ a. make a p.right) (same_spot_number p.left k.left p_in.0 k_in.0 left) ∙ ap (make k.left) (same_spot_number p.right k.right p_in.1 k_in.1 right) in
      subst (λ x. same_spots p x ≡ true) same (spots_self p)

  abbrev numbers : List SpotPair → List ℕ
  numbers = map pair_number

  others_differ : (p : SpotPair) (ks : List SpotPair) → AreIn p → AllByRecursion AreIn ks → AllByRecursion (λ k. same_spots p k ≡ false) ks → AllByRecursion (λ k. (pair_number p == k) ≡ false) (numbers ks)
  others_differ p [] p_in all differ = tt
  others_differ p (k ∷ ks) p_in all differ =
      let apart : (pair_number p == pair_number k) ≡ false =
      elim (eqb_tells (pair_number p) (pair_number k)) [
        | inl e ↦ let bad : true ≡ false = sym (same_pair_number p k p_in all.0 e.1) ∙ differ.0 in cc
        | inr e ↦ e.0
      ] in
      (apart, others_differ p ks p_in all.1 differ.1)

  all_differ : (ks : List SpotPair) → AllByRecursion AreIn ks → IsDistinct same_spots ks → IsDistinct (λ a b. a == b) (numbers ks)
  unfolding IsDistinct
  all_differ [] all distinct = tt
  all_differ (k ∷ ks) all distinct = (others_differ k ks all.0 all.1 distinct.0, all_differ ks all.1 distinct.1)

  all_below : (ks : List SpotPair) → AllByRecursion AreIn ks → (q : ℕ) → list_any (λ k. q == k) (numbers ks) ≡ true → q < most_spots count n * most_spots count n
  all_below [] all q found = let bad : false ≡ true = found in cc
  all_below (k ∷ ks) all q found =
      elim (eqb_tells q (pair_number k)) [
        | inl e ↦ let less = pair_below k all.0 in omega (arith, e.1, less)
        | inr e ↦ all_below ks all.1 q (rw e.0 at found)
      ]

  as_many : (ks : List SpotPair) → AllByRecursion AreIn ks → IsDistinct same_spots ks → length ks ≤ most_spots count n * most_spots count n
  as_many ks all distinct =
      omega (arith, length-map ks pair_number, length-le_from_distinct_below (numbers ks) (most_spots count n * most_spots count n) (all_differ ks all distinct) (all_below ks all))

  none_same : (p : SpotPair) (ks : List SpotPair) → list_any (same_spots p) ks ≡ false → AllByRecursion (λ k. same_spots p k ≡ false) ks
  none_same p [] e = tt
  none_same p (k ∷ ks) e =
      elim (cases_Bool (same_spots p k)) [
        | inl same ↦ let bad : true ≡ false = rw same at e in cc
        | inr other ↦ (other, none_same p ks (rw other at e))
      ]

  -- a pair that isn't among those that are there finds room
  one_more : (p : SpotPair) (ks : List SpotPair) → AreIn p → AllByRecursion AreIn ks → IsDistinct same_spots ks → list_any (same_spots p) ks ≡ false → length ks < most_spots count n * most_spots count n
  unfolding IsDistinct
  one_more p ks p_in all distinct absent =
      omega (arith, as_many (p ∷ ks) (p_in, all) (none_same p ks absent, distinct))

-- ---- the spots of a question
module _ (q : Question) (pairs : Pairs) (n : ℕ) (legal : IsSoundQuestion q pairs) (values : AreNoLongerThan n pairs) (left : length q.left.now ≤ n) (right : length q.right.now ≤ n) where
  text_within : (base at : ℕ) → at < length (text q pairs base) → (base < slot_count q.slots + 2) × (at < n)
  text_within base at less =
      elim (eqb_tells base (slot_count q.slots)) [
        | inl e ↦ (let here : at < length q.left.now = rw e.0 at less in (omega (arith, e.1), omega (arith, here, left)))
        | inr e ↦
            elim (eqb_tells base (slot_count q.slots + 1)) [
              | inl f ↦ (let here : at < length q.right.now = rw (e.0, f.0) at less in (omega (arith, f.1), omega (arith, here, right)))
              | inr f ↦ (let here : at < length (cells_now (value_at pairs base)) = rw (e.0, f.0) at less in value_within (value_at pairs base) refl here)
            ]
      ]
    where
      value_within : (o : Option (Bor (List Cell))) → value_at pairs base ≡ o → at < length (cells_now o) → (base < slot_count q.slots + 2) × (at < n)
      value_within None e here = absurd (omega (arith, here))
      value_within (Some v) e here = (
        omega (arith, (value_holds (IsBinding q.slots) pairs base v legal.bindings e).below),
        omega (arith, here, value_holds (λ pair. length pair.1.now ≤ n) pairs base v values e),
      )

  spot_in : (s : Spot) → IsSpot q pairs s → IsIn (slot_count q.slots) n s
  spot_in s h = text_within s.base s.at (inside (text q pairs s.base) s.at h.0 h.1)

  pair_in : (p : SpotPair) → IsSpot q pairs p.left → IsSpot q pairs p.right → AreIn (slot_count q.slots) n p
  pair_in p a b = (spot_in p.left a, spot_in p.right b)

  apart_in : (p : SpotPair) → IsApart q pairs p → AreIn (slot_count q.slots) n p
  apart_in p h = pair_in p (_, h.left) (_, h.right)

  -- there is room for one more pair of spots of the question
  pair_finds_room : (p : SpotPair) (keys : List SpotPair) → IsSpot q pairs p.left → IsSpot q pairs p.right → ArePairs q pairs keys → IsDistinct same_spots keys → list_any (same_spots p) keys ≡ false → length keys < most_spots (slot_count q.slots) n * most_spots (slot_count q.slots) n
  pair_finds_room p keys a b apart distinct absent =
      one_more (slot_count q.slots) n p keys (pair_in p a b) (all_weaker (IsApart q pairs) (AreIn (slot_count q.slots) n) keys apart_in apart) distinct absent

  -- a pair of its spots is refused only where there is less room
  pub pair_refused : (p : SpotPair) (keys : List SpotPair) (room : ℕ) → IsSpot q pairs p.left → IsSpot q pairs p.right → ArePairs q pairs keys → HasNoRoomFor keys room p → most_spots (slot_count q.slots) n * most_spots (slot_count q.slots) n ≤ room → ⊥
  pair_refused p keys room a b apart refused enough =
      omega (arith, pair_finds_room p keys a b apart refused.distinct refused.absent, refused.full, enough)
