-- Pairs of slots and values, and the places beside them.
use Rattle.std.proofs.Common.{◌≡◌, ◌≢◌, ℕ, zero, suc, ◌+◌, ◌<◌, ◌≤◌, ◌⊎◌, inl, inr, true, false, cond, List, [], ◌∷◌, ◌++◌, length, get_or, map, take, drop, refl, sym, ◌∙◌, ap, subst, arith, append_assoc, length-append, Option, None, Some}
use Rattle.std.proofs.lemmas.List.{take-append-drop, length-map, length-set, get_or-set_same, get_or-set_other}
use Rattle.std.proofs.Math.ListN.{set}
use Rattle.std.proofs.lemmas.Option.{slice_get_read, slice_get_within, get_or_from_slice_get, slice_get-get_or}
use Rattle.std.proofs.lemmas.Bool.Decides.{eqb_tells}
use Rattle.std.proofs.lemmas.Bool.{eq-eqb}
use Rattle.std.proofs.lemmas.Map.Steps.{length-le_from_distinct_below}
use Rattle.std.proofs.Math.Dec.{eqb}
use Rattle.std.specs.Prelude.{◌==◌, slice_get, option_map}
use Rattle.std.specs.List.{AllByRecursion, IsDistinct, list_any}
use Rattle.si_trail.specs.Bound.{IsSet, IsTableOf}
use Rattle.si_trail.specs.Trails.{Trail, value_at, HasDistinctSlots, HasSlotsBelow, AreUnbound}

-- what was set stays so, but for one slot
set_stays : (places : List ℕ) (slot place k there : ℕ) → k ≢ slot → IsSet places k there → IsSet (set places slot place) k there
set_stays places slot place k there differs is =
    let within : k < length (set places slot place) = omega (arith, length-set places slot place, slice_get_within places k there is) in
    let read : get_or (set places slot place) k 0 ≡ there = get_or-set_other places slot k place 0 differs ∙ get_or_from_slice_get places k there 0 is in
    slice_get-get_or (set places slot place) k 0 within ∙ ap (λ n. Some n) read

set_here : (places : List ℕ) (slot place : ℕ) → slot < length places → IsSet (set places slot place) slot place
set_here places slot place less =
    slice_get-get_or (set places slot place) slot 0 (omega (arith, less, length-set places slot place)) ∙ ap (λ n. Some n) (get_or-set_same places slot place 0 less)

-- the place that a slot has is the one that was set
pub place_read : (ls places : List ℕ) (slot place other : ℕ) → ls ≡ places → slot < length ls → place ≡ get_or ls slot place → IsSet places slot other → place ≡ other
place_read ls places slot place other e less item is =
    let read : get_or ls slot place ≡ other = ap (λ l. get_or l slot place) e ∙ get_or_from_slice_get places slot other place is in
    item ∙ read

module _ {T : Type 0} where
  -- an unbound slot has another number than any that is bound
  other_slot : (p : ℕ × T) (ps : List (ℕ × T)) (slot : ℕ) → value_at (p ∷ ps) slot ≡ None → (p.0 == slot ≡ false) × (value_at ps slot ≡ None)
  other_slot p ps slot unbound =
      elim (eqb_tells p.0 slot) [
        | inl h ↦ let bad : Some p.1 ≡ None = rw h.0 at unbound in cc
        | inr h ↦ (h.0, rw h.0 at unbound)
      ]

  pub value_at-pushed : (ps : List (ℕ × T)) (slot : ℕ) (x : T) → value_at ps slot ≡ None → value_at (ps ++ (slot, x) ∷ []) slot ≡ Some x
  value_at-pushed [] slot x unbound = rw (eq-eqb slot slot refl) refl
  value_at-pushed (p ∷ ps) slot x unbound = let h = other_slot p ps slot unbound in rw h.0 (value_at-pushed ps slot x h.1)

  pub value_at-others : (ps : List (ℕ × T)) (slot k : ℕ) (x : T) → k ≢ slot → value_at (ps ++ (slot, x) ∷ []) k ≡ value_at ps k
  value_at-others [] slot k x differs =
      elim (eqb_tells slot k) [ inl h ↦ absurd (differs (sym h.1)) | inr h ↦ rw h.0 refl ]
  value_at-others (p ∷ ps) slot k x differs = ap (λ r. cond (p.0 == k) (Some p.1) r) (value_at-others ps slot k x differs)

  pub distinct_pushed : (ps : List (ℕ × T)) (slot : ℕ) (x : T) → value_at ps slot ≡ None → HasDistinctSlots ps → HasDistinctSlots (ps ++ (slot, x) ∷ [])
  distinct_pushed [] slot x unbound distinct = (refl, tt)
  distinct_pushed (p ∷ ps) slot x unbound distinct =
      let h = other_slot p ps slot unbound in
      let ne : p.0 ≢ slot = λ e. let bad : true ≡ false = sym (eq-eqb p.0 slot e) ∙ h.0 in cc in
      (value_at-others ps slot p.0 x ne ∙ distinct.0, distinct_pushed ps slot x h.1 distinct.1)

  pub below_pushed : (n : ℕ) (ps : List (ℕ × T)) (slot : ℕ) (x : T) → slot < n → HasSlotsBelow n ps → HasSlotsBelow n (ps ++ (slot, x) ∷ [])
  below_pushed n [] slot x less below = (less, tt)
  below_pushed n (p ∷ ps) slot x less below = (below.0, below_pushed n ps slot x less below.1)

  -- the same backwards
  pub distinct_popped : (ps : List (ℕ × T)) (slot : ℕ) (x : T) → HasDistinctSlots (ps ++ (slot, x) ∷ []) → HasDistinctSlots ps × (value_at ps slot ≡ None)
  distinct_popped [] slot x distinct = (tt, refl)
  distinct_popped (p ∷ ps) slot x distinct =
      let h = distinct_popped ps slot x distinct.1 in
      elim (eqb_tells p.0 slot) [
        | inl e ↦
            let bad : value_at (ps ++ (slot, x) ∷ []) slot ≡ None = subst (λ k. value_at (ps ++ (slot, x) ∷ []) k ≡ None) e.1 distinct.0 in
            let good = value_at-pushed ps slot x h.1 in
            let clash : Some x ≡ None = sym good ∙ bad in
            cc
        | inr e ↦ ((sym (value_at-others ps slot p.0 x e.1) ∙ distinct.0, h.0), rw e.0 h.1)
      ]

  -- what is bound after a mark is unbound before it
  behind : (ps qs : List (ℕ × T)) (slot : ℕ) → value_at (ps ++ qs) slot ≡ None → value_at ps slot ≡ None
  behind [] qs slot unbound = refl
  behind (p ∷ ps) qs slot unbound = let h = other_slot p (ps ++ qs) slot unbound in rw h.0 (behind ps qs slot h.1)

  distinct_front : (ps qs : List (ℕ × T)) → HasDistinctSlots (ps ++ qs) → HasDistinctSlots ps
  distinct_front [] qs distinct = tt
  distinct_front (p ∷ ps) qs distinct = (behind ps qs p.0 distinct.0, distinct_front ps qs distinct.1)

  unbound_front : (ps qs rs : List (ℕ × T)) → AreUnbound (ps ++ qs) rs → AreUnbound ps rs
  unbound_front ps qs [] unbound = tt
  unbound_front ps qs (r ∷ rs) unbound = (behind ps qs r.0 unbound.0, unbound_front ps qs rs unbound.1)

  unbound_all : (ps qs : List (ℕ × T)) → HasDistinctSlots (ps ++ qs) → AreUnbound ps qs
  unbound_all ps [] distinct = tt
  unbound_all ps (q ∷ qs) distinct =
      let apart : HasDistinctSlots ((ps ++ q ∷ []) ++ qs) = rw append_assoc distinct in (
        (distinct_popped ps q.0 q.1 (distinct_front (ps ++ q ∷ []) qs apart)).1,
        unbound_front ps (q ∷ []) qs (unbound_all (ps ++ q ∷ []) qs apart),
      )

  pub unbound_behind : (n : ℕ) (ps : List (ℕ × T)) → HasDistinctSlots ps → AreUnbound (take n ps) (drop n ps)
  unbound_behind n ps distinct = unbound_all (take n ps) (drop n ps) (subst HasDistinctSlots (sym (take-append-drop n ps)) distinct)

  -- ---- there are no more bindings than slots
  abbrev slots_of : List (ℕ × T) → List ℕ
  slots_of = map (λ p. p.0)

  others_differ : (ps : List (ℕ × T)) (slot : ℕ) → value_at ps slot ≡ None → AllByRecursion (λ k. eqb slot k ≡ false) (slots_of ps)
  others_differ [] slot unbound = tt
  others_differ (p ∷ ps) slot unbound =
      let h = other_slot p ps slot unbound in
      let apart : eqb slot p.0 ≡ false =
      elim (eqb_tells slot p.0) [
        | inl e ↦ let bad : true ≡ false = sym (eq-eqb p.0 slot (sym e.1)) ∙ h.0 in cc
        | inr e ↦ e.0
      ] in
      (apart, others_differ ps slot h.1)

  all_differ : (ps : List (ℕ × T)) → HasDistinctSlots ps → IsDistinct eqb (slots_of ps)
  unfolding IsDistinct
  all_differ [] distinct = tt
  all_differ (p ∷ ps) distinct = (others_differ ps p.0 distinct.0, all_differ ps distinct.1)

  all_below : (n : ℕ) (ps : List (ℕ × T)) → HasSlotsBelow n ps → (q : ℕ) → list_any (eqb q) (slots_of ps) ≡ true → q < n
  all_below n [] below q found = let bad : false ≡ true = found in cc
  all_below n (p ∷ ps) below q found =
      elim (eqb_tells q p.0) [
        | inl e ↦ let less : p.0 < n = below.0 in omega (arith, e.1, less)
        | inr e ↦ all_below n ps below.1 q (rw e.0 at found)
      ]

  pub as_many : (n : ℕ) (ps : List (ℕ × T)) → HasDistinctSlots ps → HasSlotsBelow n ps → length ps ≤ n
  as_many n ps distinct below =
      omega (arith, length-map {A = ℕ × T} {B = ℕ} ps (λ p. p.0), length-le_from_distinct_below (slots_of ps) n (all_differ ps distinct) (all_below n ps below))

  -- ---- a slot is looked up
  value_there : (ps : List (ℕ × T)) (place slot : ℕ) (x : T) → HasDistinctSlots ps → slice_get ps place ≡ Some (slot, x) → value_at ps slot ≡ Some x
  value_there [] place slot x distinct there = absurd (omega (arith, slice_get_within [] place (slot, x) there))
  value_there (p ∷ ps) zero slot x distinct there =
      let slots : Some p.0 ≡ Some slot = ap (option_map (λ (q : ℕ × T). q.0)) there in
      let values : Some p.1 ≡ Some x = ap (option_map (λ (q : ℕ × T). q.1)) there in
      let same : p.0 ≡ slot = cc in
      rw (eq-eqb p.0 slot same) values
  value_there (p ∷ ps) (suc place) slot x distinct there =
      let later = value_there ps place slot x distinct.1 there in
      elim (eqb_tells p.0 slot) [
        | inl e ↦ let bad : None ≡ Some x = sym (subst (λ k. value_at ps k ≡ None) e.1 distinct.0) ∙ later in cc
        | inr e ↦ rw e.0 later
      ]

  there_is : (ps : List (ℕ × T)) (slot : ℕ) (x : T) → value_at ps slot ≡ Some x → (place : ℕ) × (slice_get ps place ≡ Some (slot, x))
  there_is [] slot x bound = let bad : None ≡ Some x = bound in cc
  there_is (p ∷ ps) slot x bound =
      elim (eqb_tells p.0 slot) [
        | inl e ↦
            let value : Some p.1 ≡ Some x = rw e.0 at bound in
            let same : p.1 ≡ x = cc in
            (0, λ i. Some (e.1 i, same i))
        | inr e ↦ let h = there_is ps slot x (rw e.0 at bound) in (suc h.0, h.1)
      ]

  pub not_there : (ps : List (ℕ × T)) (slot place : ℕ) → ((other : ℕ) (x : T) → slice_get ps other ≡ Some (slot, x) → place ≡ other) → ((x : T) → slice_get ps place ≢ Some (slot, x)) → value_at ps slot ≡ None
  not_there ps slot place told differs = by_value (value_at ps slot) refl where
    by_value : (v : Option T) → value_at ps slot ≡ v → value_at ps slot ≡ None
    by_value None e = e
    by_value (Some x) e =
        let h = there_is ps slot x e in
        absurd (differs x (subst (λ k. slice_get ps k ≡ Some (slot, x)) (sym (told h.0 x h.1)) h.1))

  -- a slot without a place isn't bound
  pub told_past : (places : List ℕ) (slots capacity slot : ℕ) (ls ps : List (ℕ × T)) → ls ≡ ps → IsTableOf places slots capacity ls → length places ≤ slot → None ≡ value_at ps slot
  told_past places slots capacity slot ls ps e h past = sym (by_value (value_at ps slot) refl) where
    by_value : (v : Option T) → value_at ps slot ≡ v → value_at ps slot ≡ None
    by_value None v = v
    by_value (Some x) v =
        let there = there_is ps slot x v in
        absurd (omega (arith, past, slice_get_within places slot there.0 (h.at there.0 slot x (subst (λ l. slice_get l there.0 ≡ Some (slot, x)) (sym e) there.1))))

  some_same : (p q : ℕ × T) → Some p ≡ Some q → p.0 ≡ q.0
  some_same p q e = let slots : Some p.0 ≡ Some q.0 = ap (option_map (λ (r : ℕ × T). r.0)) e in cc

  -- the binding at the place that the slot has decides
  pub told_there : (ls ps : List (ℕ × T)) (slot place : ℕ) (p : ℕ × T) → ls ≡ ps → HasDistinctSlots ps → place < length ls → p ≡ get_or ls place p → p.0 ≡ slot → Some p.1 ≡ value_at ps slot
  told_there ls ps slot place p e distinct less item same =
      let there : slice_get ls place ≡ Some p = slice_get_read ls (length ls) place p refl less item in
      sym (subst (λ k. value_at ps k ≡ Some p.1) same (value_there ps place p.0 p.1 distinct (subst (λ l. slice_get l place ≡ Some p) e there)))

  pub told_other : (ls ps : List (ℕ × T)) (slot place : ℕ) (p : ℕ × T) → ls ≡ ps → ((other : ℕ) (x : T) → slice_get ps other ≡ Some (slot, x) → place ≡ other) → place < length ls → p ≡ get_or ls place p → p.0 ≢ slot → None ≡ value_at ps slot
  told_other ls ps slot place p e told less item differs =
      let there : slice_get ps place ≡ Some p = subst (λ l. slice_get l place ≡ Some p) e (slice_get_read ls (length ls) place p refl less item) in
      sym (not_there ps slot place told (λ x same. differs (some_same p (slot, x) (sym there ∙ same))))

  pub told_none : (ls ps : List (ℕ × T)) (slot place : ℕ) → ls ≡ ps → ((other : ℕ) (x : T) → slice_get ps other ≡ Some (slot, x) → place ≡ other) → length ls ≤ place → None ≡ value_at ps slot
  told_none ls ps slot place e told past =
      sym (not_there ps slot place told (λ x there. absurd (omega (arith, past, ap length e, slice_get_within ps place (slot, x) there))))

  -- ---- bindings come and go
  pushed_there : (ps : List (ℕ × T)) (p q : ℕ × T) (place : ℕ) → slice_get (ps ++ p ∷ []) place ≡ Some q → (slice_get ps place ≡ Some q) ⊎ ((place ≡ length ps) × (Some p ≡ Some q))
  pushed_there [] p q zero there = inr (refl, there)
  pushed_there [] p q (suc place) there = inl there
  pushed_there (r ∷ ps) p q zero there = inl there
  pushed_there (r ∷ ps) p q (suc place) there =
      elim (pushed_there ps p q place there) [
        | inl e ↦ inl e
        | inr e ↦ inr (ap (λ n. suc n) e.0, e.1)
      ]

  -- one more binding, of a slot that has none
  pub table_pushed :
      (places : List ℕ) (slots capacity more slot : ℕ) (x : T) (ps qs : List (ℕ × T)) (seen : Trail T)
      → IsTableOf places slots capacity ps
      → record { slots = slots; pairs = ps } ≡ seen
      → slot < seen.slots
      → value_at seen.pairs slot ≡ None
      → more ≡ capacity
      → qs ≡ ps ++ (slot, x) ∷ []
      → IsTableOf (set places slot (length ps)) slots more qs
  table_pushed places slots capacity more slot x ps qs seen h view within free grown pushed =
      let less : slot < slots = subst (λ (t : Trail T). slot < t.slots) (sym view) within in
      let unbound : value_at ps slot ≡ None = ap (λ (t : Trail T). value_at t.pairs slot) view ∙ free in
      subst (IsTableOf (set places slot (length ps)) slots more) (sym pushed)
      (record {
        reach = omega (arith, h.reach, length-set places slot (length ps));
        at = λ place k y there.
            elim (pushed_there ps (slot, x) (k, y) place there) [
              | inl e ↦
                  let differs : k ≢ slot = λ same. let bad : Some y ≡ None = sym (value_there ps place k y h.distinct e) ∙ ap (value_at ps) same ∙ unbound in cc in
                  set_stays places slot (length ps) k place differs (h.at place k y e)
              | inr e ↦
                  let same : slot ≡ k = some_same (slot, x) (k, y) e.1 in
                  subst (λ n. IsSet (set places slot (length ps)) k n) (sym e.0)
                  (subst (λ n. IsSet (set places slot (length ps)) n (length ps)) same (set_here places slot (length ps) (omega (arith, less, h.reach))))
            ];
        distinct = distinct_pushed ps slot x unbound h.distinct;
        below = below_pushed slots ps slot x less h.below;
        room = omega (arith, h.room, grown);
        small = h.small;
      })

  pub has_room :
      (places : List ℕ) (slots capacity slot : ℕ) (x : T) (ps : List (ℕ × T)) (seen : Trail T)
      → IsTableOf places slots capacity ps
      → record { slots = slots; pairs = ps } ≡ seen
      → slot < seen.slots
      → value_at seen.pairs slot ≡ None
      → length ps < slots
  has_room places slots capacity slot x ps seen h view within free =
      let less : slot < slots = subst (λ (t : Trail T). slot < t.slots) (sym view) within in
      let unbound : value_at ps slot ≡ None = ap (λ (t : Trail T). value_at t.pairs slot) view ∙ free in
      omega (arith, as_many slots (ps ++ (slot, x) ∷ []) (distinct_pushed ps slot x unbound h.distinct) (below_pushed slots ps slot x less h.below), length-append ps ((slot, x) ∷ []))

  taken_there : (n : ℕ) (ps : List (ℕ × T)) (q : ℕ × T) (place : ℕ) → slice_get (take n ps) place ≡ Some q → slice_get ps place ≡ Some q
  taken_there zero ps q place there = absurd (omega (arith, slice_get_within [] place q there))
  taken_there (suc n) [] q place there = there
  taken_there (suc n) (p ∷ ps) q zero there = there
  taken_there (suc n) (p ∷ ps) q (suc place) there = taken_there n ps q place there

  below_taken : (n bound : ℕ) (ps : List (ℕ × T)) → HasSlotsBelow bound ps → HasSlotsBelow bound (take n ps)
  below_taken zero bound ps below = tt
  below_taken (suc n) bound [] below = tt
  below_taken (suc n) bound (p ∷ ps) below = (below.0, below_taken n bound ps below.1)

  -- the first so many bindings are left
  pub table_taken :
      (places : List ℕ) (slots capacity more n : ℕ) (ps qs : List (ℕ × T))
      → IsTableOf places slots capacity ps
      → more ≡ capacity
      → qs ≡ take n ps
      → IsTableOf places slots more qs
  table_taken places slots capacity more n ps qs h same taken =
      subst (IsTableOf places slots more) (sym taken)
      (record {
        reach = h.reach;
        at = λ place slot x there. h.at place slot x (taken_there n ps (slot, x) place there);
        distinct = distinct_front (take n ps) (drop n ps) (subst HasDistinctSlots (sym (take-append-drop n ps)) h.distinct);
        below = below_taken n slots ps h.below;
        room = omega (arith, h.room, same);
        small = h.small;
      })
