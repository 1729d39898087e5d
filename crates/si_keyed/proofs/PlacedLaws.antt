-- Laws of items with their places.
use Rattle.std.proofs.Common.{if◌then◌else◌, suc, zero, ◌≡◌, ◌<◌, ◌≤◌, ◌+◌, ◌*◌, ℕ, true, false, List, [], ◌∷◌, Option, Some, None, length, take, slice_get, inl, inr, refl, sym, ◌∙◌, ap, subst, arith}
use Rattle.std.proofs.Math.Dec.{eqb}
use Rattle.std.proofs.lemmas.Bool.{eq-eqb, ne_eqb}
use Rattle.std.proofs.lemmas.List.{length-map}
use Rattle.std.proofs.lemmas.Option.{same_Some, none-some}
use Rattle.si_defs.specs.Substitutions.{IsAmong}
use Rattle.si_defs.proofs.ListLaws.{all_at, all_from, all_got, get_among}
use Rattle.si_keyed.specs.Halves.{sum_of}
use Rattle.si_keyed.specs.KeyedSlots.{kept, flags, HaveFewHoles, HoldsAt}
use Rattle.si_keyed.specs.Placed.{placed_from, placed_items, HasPlace, PlacesRise}
use Rattle.si_keyed.specs.declared.keyed.Kept.{Kept}
use Rattle.si_keyed.proofs.SlotLaws.{entry, get_next, stands_inside}

module _ {T : Type 0} where
  pub items_placed : (n : ℕ) (slots : List (Option (Kept T))) → placed_items (placed_from n slots) ≡ kept slots
  items_placed n [] = refl
  items_placed n (None ∷ slots) = items_placed (suc n) slots
  items_placed n (Some k ∷ slots) = ap (λ l. entry k ∷ l) (items_placed (suc n) slots)

  -- the item at a place has as many before it as stand at the places before
  pub placed_there : (n : ℕ) (slots : List (Option (Kept T))) (place at : ℕ) (k : Kept T) → HoldsAt slots place k → at ≡ n + place
      → slice_get (placed_from n slots) (sum_of (take place (flags slots))) ≡ Some (at, entry k)
  placed_there n [] place at k h is = absurd (none-some _ h)
  placed_there n (None ∷ slots) zero at k h is = absurd (none-some _ h)
  placed_there n (Some j ∷ slots) zero at k h is =
      let here : n ≡ at = omega (arith, is) in
      λ i. Some (here i, entry (same_Some _ _ h i))
  placed_there n (None ∷ slots) (suc place) at k h is =
      subst (λ m. slice_get (placed_from (suc n) slots) m ≡ Some (at, entry k)) {x = sum_of (take place (flags slots))} (omega arith)
      (placed_there (suc n) slots place at k h (omega (arith, is)))
  placed_there n (Some j ∷ slots) (suc place) at k h is =
      get_next (n, entry j) (placed_from (suc n) slots) (sum_of (take place (flags slots))) ∙ placed_there (suc n) slots place at k h (omega (arith, is))

  -- what is among them stands at its place
  pub record IsHeld (n : ℕ) (slots : List (Option (Kept T))) (at : ℕ) : Type 0 where
    pub place : ℕ
    pub item : Kept T
    pub holds : HoldsAt slots place item
    pub at_is : at ≡ n + place

  later : (n : ℕ) (slot : Option (Kept T)) (slots : List (Option (Kept T))) (at : ℕ) → IsHeld (suc n) slots at → IsHeld n (slot ∷ slots) at
  later n slot slots at h = record { place = suc h.place; item = h.item; holds = h.holds; at_is = omega (arith, h.at_is) }

  held_there : (n : ℕ) (slots : List (Option (Kept T))) (p : ℕ × (ℕ × T)) → IsAmong (placed_from n slots) p → IsHeld n slots p.0
  held_there n [] p a = absurd a
  held_there n (None ∷ slots) p a = later n None slots p.0 (held_there (suc n) slots p a)
  held_there n (Some k ∷ slots) p (inl e) =
      let here : n ≡ p.0 = ap (λ (q : ℕ × (ℕ × T)). q.0) e in
      record { place = 0; item = k; holds = refl; at_is = omega (arith, here) }
  held_there n (Some k ∷ slots) p (inr a) = later n (Some k) slots p.0 (held_there (suc n) slots p a)

  pub places_rise : (n : ℕ) (slots : List (Option (Kept T))) → PlacesRise (placed_from n slots)
  places_rise n [] = tt
  places_rise n (None ∷ slots) = places_rise (suc n) slots
  places_rise n (Some k ∷ slots) = (
    all_from (λ (q : ℕ × (ℕ × T)). n < q.0) (placed_from (suc n) slots) (λ q a. omega (arith, (held_there (suc n) slots q a).at_is)),
    places_rise (suc n) slots,
  )

  -- ---- a place, and what stands there
  pub among_placed : (slots : List (Option (Kept T))) (place : ℕ) (k : Kept T) → HoldsAt slots place k → IsAmong (placed_from 0 slots) (place, entry k)
  among_placed slots place k h = get_among (placed_from 0 slots) (sum_of (take place (flags slots))) (place, entry k) (placed_there 0 slots place place k h (omega arith))

  pub holds_place : (slots : List (Option (Kept T))) (placed : List (ℕ × (ℕ × T))) (place : ℕ) → placed_from 0 slots ≡ placed → HasPlace placed place → (k : Kept T) × HoldsAt slots place k
  holds_place slots placed place are has =
      let h = held_there 0 slots (place, has.0) (subst (λ l. IsAmong l (place, has.0)) (sym are) has.1) in
      let same : h.place ≡ place = omega (arith, h.at_is) in
      (h.item, subst (λ n. HoldsAt slots n h.item) same h.holds)

  -- places are few
  pub few_places : (slots : List (Option (Kept T))) (placed : List (ℕ × (ℕ × T))) (place : ℕ) (k : Kept T) → placed_from 0 slots ≡ placed → HaveFewHoles slots → HoldsAt slots place k
      → place ≤ 2 * length placed
  few_places slots placed place k are few h =
      omega (arith, few, stands_inside slots place k h, ap length (items_placed 0 slots), length-map (placed_from 0 slots) (λ p. p.1), ap length are)

-- ---- items whose places rise
module _ {T : Type 0} where
  pub lower_position : (placed : List (ℕ × (ℕ × T))) (m n : ℕ) (p q : ℕ × (ℕ × T)) → PlacesRise placed → slice_get placed m ≡ Some p → slice_get placed n ≡ Some q → p.0 < q.0 → m < n
  lower_position [] m n p q rise a b less = absurd (none-some p a)
  lower_position (x ∷ placed) zero zero p q rise a b less =
      let same : p.0 ≡ q.0 = ap (λ (r : ℕ × (ℕ × T)). r.0) (sym (same_Some x p a) ∙ same_Some x q b) in
      absurd (omega (arith, less, same))
  lower_position (x ∷ placed) zero (suc n) p q rise a b less = omega arith
  lower_position (x ∷ placed) (suc m) zero p q rise a b less =
      let same : x.0 ≡ q.0 = ap (λ (r : ℕ × (ℕ × T)). r.0) (same_Some x q b) in
      absurd (omega (arith, less, same, all_got (λ (r : ℕ × (ℕ × T)). x.0 < r.0) placed m p rise.0 a))
  lower_position (x ∷ placed) (suc m) (suc n) p q rise a b less = omega (arith, lower_position placed m n p q rise.1 a b less)

  pub same_position : (placed : List (ℕ × (ℕ × T))) (m n : ℕ) (p q : ℕ × (ℕ × T)) → PlacesRise placed → slice_get placed m ≡ Some p → slice_get placed n ≡ Some q → p.0 ≡ q.0 → m ≡ n
  same_position [] m n p q rise a b same = absurd (none-some p a)
  same_position (x ∷ placed) zero zero p q rise a b same = refl
  same_position (x ∷ placed) zero (suc n) p q rise a b same =
      let here : x.0 ≡ p.0 = ap (λ (r : ℕ × (ℕ × T)). r.0) (same_Some x p a) in
      absurd (omega (arith, same, here, all_got (λ (r : ℕ × (ℕ × T)). x.0 < r.0) placed n q rise.0 b))
  same_position (x ∷ placed) (suc m) zero p q rise a b same =
      let here : x.0 ≡ q.0 = ap (λ (r : ℕ × (ℕ × T)). r.0) (same_Some x q b) in
      absurd (omega (arith, same, here, all_got (λ (r : ℕ × (ℕ × T)). x.0 < r.0) placed m p rise.0 a))
  same_position (x ∷ placed) (suc m) (suc n) p q rise a b same = ap suc (same_position placed m n p q rise.1 a b same)

  -- the key at a place
  abbrev pub key_there : List (ℕ × (ℕ × T)) → ℕ → ℕ
  key_there [] place = 0
  key_there (p ∷ placed) place = if eqb p.0 place then p.1.0 else key_there placed place

  pub key_is : (placed : List (ℕ × (ℕ × T))) (place key : ℕ) (item : T) → PlacesRise placed → IsAmong placed (place, (key, item)) → key_there placed place ≡ key
  key_is [] place key item rise a = absurd a
  key_is (p ∷ placed) place key item rise (inl e) =
      let here : eqb p.0 place ≡ true = eq-eqb p.0 place (ap (λ (r : ℕ × (ℕ × T)). r.0) e) in
      ap (λ b. if b then p.1.0 else key_there placed place) here ∙ ap (λ (r : ℕ × (ℕ × T)). r.1.0) e
  key_is (p ∷ placed) place key item rise (inr a) =
      let later : p.0 < place = all_at (λ (r : ℕ × (ℕ × T)). p.0 < r.0) placed (place, (key, item)) rise.0 a in
      let other : eqb p.0 place ≡ false = ne_eqb p.0 place (λ e. omega (arith, e, later)) in
      ap (λ b. if b then p.1.0 else key_there placed place) other ∙ key_is placed place key item rise.1 a

  -- the item of a key at a place
  pub held_as : (slots : List (Option (Kept T))) (place key : ℕ) (item : T) → IsAmong (placed_from 0 slots) (place, (key, item)) → (k : Kept T) × HoldsAt slots place k × (k.key ≡ key)
  held_as slots place key item there =
      let held = holds_place slots (placed_from 0 slots) place refl ((key, item), there) in
      let rise = places_rise 0 slots in (
        held.0,
        held.1,
        sym (key_is (placed_from 0 slots) place held.0.key held.0.item rise (among_placed slots place held.0 held.1)) ∙ key_is (placed_from 0 slots) place key item rise there,
      )
