-- Laws of keys that lead to the places of their items.
use Rattle.std.proofs.Common.{suc, zero, ◌≡◌, ◌≢◌, ◌⊎◌, ◌<◌, ◌≤◌, ◌+◌, ℕ, List, [], ◌∷◌, ◌++◌, Option, Some, None, length, slice_index_or, slice_set, inl, inr, refl, sym, ◌∙◌, ap, subst, arith}
use Rattle.std.proofs.lemmas.Option.{same_Some, none-some}
use Rattle.std.proofs.lemmas.Bool.{cases_eq}
use Rattle.std.proofs.lemmas.List.{get_or-set_same, get_or-set_other, get_or_append_left}
use Rattle.si_defs.specs.Substitutions.{AreDistinct}
use Rattle.si_keyed.specs.Keyed.{item_keys, HasKey}
use Rattle.si_keyed.specs.KeyedSlots.{kept, HoldsAt, IsLinked, KnowsKeys}
use Rattle.si_keyed.specs.declared.keyed.Kept.{Kept}
use Rattle.si_keyed.proofs.SlotLaws.{entry, stands_inside, among_there, key_stands}
use Rattle.si_keyed.proofs.KeyLaws.{key_among}

-- two places are the same, or one is the other's left or right
data Where (i n : ℕ) : Type 0 where
  before : i < n → Where i n
  there : i ≡ n → Where i n
  behind : n < i → Where i n

where_is : (i n : ℕ) → Where i n
where_is zero zero = there refl
where_is zero (suc n) = before (omega arith)
where_is (suc i) zero = behind (omega arith)
where_is (suc i) (suc n) = elim (where_is i n) [
  | before h ↦ before (omega (arith, h))
  | there h ↦ there (ap suc h)
  | behind h ↦ behind (omega (arith, h))
]

module _ {T : Type 0} where
  pub has_key : (slots : List (Option (Kept T))) (place : ℕ) (k : Kept T) → HoldsAt slots place k → HasKey (kept slots) k.key
  has_key slots place k h = key_among (kept slots) (entry k) (among_there slots place k h)

  -- ---- no slots
  pub linked_none : (place_of : ℕ → Option ℕ) → ((key : ℕ) → place_of key ≡ None) → IsLinked {T = T} [] place_of
  linked_none place_of h = record {
    there = λ place k s. absurd (none-some _ s);
    back = λ key place s. absurd (none-some _ (sym (h key) ∙ s));
  }

  -- ---- one more item
  stands_pushed : (slots : List (Option (Kept T))) (k j : Kept T) (place : ℕ) → HoldsAt (slots ++ Some k ∷ []) place j
      → HoldsAt slots place j ⊎ ((place ≡ length slots) × (k ≡ j))
  stands_pushed [] k j zero h = inr (refl, same_Some _ _ h)
  stands_pushed [] k j (suc place) h = absurd (none-some _ h)
  stands_pushed (s ∷ slots) k j zero h = inl h
  stands_pushed (s ∷ slots) k j (suc place) h = elim (stands_pushed slots k j place h) [
    | inl is ↦ inl is
    | inr is ↦ inr (ap suc is.0, is.1)
  ]

  still_stands : (slots : List (Option (Kept T))) (k j : Kept T) (place : ℕ) → HoldsAt slots place j → HoldsAt (slots ++ Some k ∷ []) place j
  still_stands slots k j place h = get_or_append_left slots (Some k ∷ []) None place (stands_inside slots place j h) ∙ h

  stands_last : (slots : List (Option (Kept T))) (k : Kept T) → HoldsAt (slots ++ Some k ∷ []) (length slots) k
  stands_last [] k = refl
  stands_last (s ∷ slots) k = stands_last slots k

  pub linked_pushed : (slots : List (Option (Kept T))) (k : Kept T) (was is : ℕ → Option ℕ) → IsLinked slots was → was k.key ≡ None
      → is k.key ≡ Some (length slots) → ((other : ℕ) → other ≢ k.key → is other ≡ was other) → IsLinked (slots ++ Some k ∷ []) is
  linked_pushed slots k was is h free new others = record {
    there = λ place j s. elim (stands_pushed slots k j place s) [
      | inl stands ↦
          let differ : j.key ≢ k.key = λ same. none-some _ (sym free ∙ ap was (sym same) ∙ h.there place j stands) in
          others j.key differ ∙ h.there place j stands
      | inr last ↦ ap (λ i. is i.key) (sym last.1) ∙ new ∙ ap Some (sym last.0)
    ];
    back = λ key place s. elim (cases_eq key k.key) [
      | inl same ↦
          let at : length slots ≡ place = same_Some _ _ (sym new ∙ ap is (sym same) ∙ s) in
          (k, subst (λ p. HoldsAt (slots ++ Some k ∷ []) p k) at (stands_last slots k), sym same)
      | inr differ ↦
          let found = h.back key place (sym (others key differ) ∙ s) in
          (found.0, still_stands slots k found.0 place found.1, found.2)
    ];
  }

  pub fresh_key : (slots : List (Option (Kept T))) (was : ℕ → Option ℕ) (key : ℕ) → IsLinked slots was → was key ≡ None → HasKey (kept slots) key → ⊥
  fresh_key slots was key h free has =
      let found = key_stands slots key has in
      none-some _ (sym free ∙ ap was (sym found.3) ∙ h.there found.0 found.1 found.2)

  -- ---- an item taken out
  stands_other : (slots : List (Option (Kept T))) (place other : ℕ) (k j : Kept T) → HoldsAt slots place k
      → HoldsAt (slice_set slots place None) other j → (other ≢ place) × HoldsAt slots other j
  stands_other slots place other k j at h =
      let differ : other ≢ place = λ same.
      none-some _ (sym (get_or-set_same slots place None None (stands_inside slots place k at)) ∙ ap (λ p. slice_index_or (slice_set slots place None) p None) (sym same) ∙ h) in
      (differ, sym (get_or-set_other slots place other None None differ) ∙ h)

  pub linked_without : (slots : List (Option (Kept T))) (place : ℕ) (k : Kept T) (was is : ℕ → Option ℕ) → IsLinked slots was → HoldsAt slots place k
      → is k.key ≡ None → ((other : ℕ) → other ≢ k.key → is other ≡ was other) → IsLinked (slice_set slots place None) is
  linked_without slots place k was is h at gone others = record {
    there = λ other j s.
        let stands = stands_other slots place other k j at s in
        let differ : j.key ≢ k.key = λ same. stands.0 (same_Some _ _ (sym (h.there other j stands.1) ∙ ap was same ∙ h.there place k at)) in
        others j.key differ ∙ h.there other j stands.1;
    back = λ key other s. elim (cases_eq key k.key) [
      | inl same ↦ absurd (none-some _ (sym gone ∙ ap is (sym same) ∙ s))
      | inr differ ↦
          let found = h.back key other (sym (others key differ) ∙ s) in
          let apart : other ≢ place = λ same.
          differ (sym found.2 ∙ ap (λ i. i.key) (same_Some _ _ (sym found.1 ∙ ap (λ p. slice_index_or slots p None) same ∙ at))) in
          (found.0, get_or-set_other slots place other None None apart ∙ found.1, found.2)
    ];
  }

  -- ---- which keys are known
  distinct_from : (slots : List (Option (Kept T))) (place_of : ℕ → Option ℕ) (n : ℕ)
      → ((place : ℕ) (k : Kept T) → HoldsAt slots place k → place_of k.key ≡ Some (n + place)) → AreDistinct (item_keys (kept slots))
  distinct_from [] place_of n h = tt
  distinct_from (None ∷ slots) place_of n h =
      distinct_from slots place_of (n + 1) (λ place k s. h (suc place) k s ∙ ap Some (omega arith))
  distinct_from (Some j ∷ slots) place_of n h = (
    λ among.
        let found = key_stands slots j.key among in
        let same : n + suc found.0 ≡ n + 0 = same_Some _ _ (sym (h (suc found.0) found.1 found.2) ∙ ap place_of found.3 ∙ h zero j refl) in
        omega (arith, same),
    distinct_from slots place_of (n + 1) (λ place k s. h (suc place) k s ∙ ap Some (omega arith)),
  )

  pub linked_knows : (slots : List (Option (Kept T))) (place_of : ℕ → Option ℕ) → IsLinked slots place_of → KnowsKeys (kept slots) place_of
  linked_knows slots place_of h = record {
    distinct = distinct_from slots place_of 0 (λ place k s. h.there place k s ∙ ap Some (omega arith));
    known = λ key has.
        let found = key_stands slots key has in
        (found.0, ap place_of (sym found.3) ∙ h.there found.0 found.1 found.2);
    only = λ key place s.
        let found = h.back key place s in
        subst (HasKey (kept slots)) found.2 (has_key slots place found.0 found.1);
  }

  same_place : (slots : List (Option (Kept T))) (i n : ℕ) (k j : Kept T) → AreDistinct (item_keys (kept slots)) → HoldsAt slots i k → HoldsAt slots n j
      → k.key ≡ j.key → i ≡ n
  same_place [] i n k j d s t same = absurd (none-some _ s)
  same_place (None ∷ slots) zero n k j d s t same = absurd (none-some _ s)
  same_place (None ∷ slots) (suc i) zero k j d s t same = absurd (none-some _ t)
  same_place (None ∷ slots) (suc i) (suc n) k j d s t same = ap suc (same_place slots i n k j d s t same)
  same_place (Some x ∷ slots) zero zero k j d s t same = refl
  same_place (Some x ∷ slots) zero (suc n) k j d s t same =
      absurd (d.0 (subst (HasKey (kept slots)) (sym same ∙ ap (λ i. i.key) (sym (same_Some _ _ s))) (has_key slots n j t)))
  same_place (Some x ∷ slots) (suc i) zero k j d s t same =
      absurd (d.0 (subst (HasKey (kept slots)) (same ∙ ap (λ i. i.key) (sym (same_Some _ _ t))) (has_key slots i k s)))
  same_place (Some x ∷ slots) (suc i) (suc n) k j d s t same = ap suc (same_place slots i n k j d.1 s t same)

  -- ---- places told anew
  -- the keys of the items before this place lead there
  pub record AreTold (slots : List (Option (Kept T))) (upto : ℕ) (place_of : ℕ → Option ℕ) : Type 0 where
    pub there : (place : ℕ) (k : Kept T) → place < upto → HoldsAt slots place k → place_of k.key ≡ Some place
    pub knows : KnowsKeys (kept slots) place_of

  pub told_none : (slots : List (Option (Kept T))) (place_of : ℕ → Option ℕ) → KnowsKeys (kept slots) place_of → AreTold slots 0 place_of
  told_none slots place_of h = record { there = λ place k p s. absurd (omega (arith, p)); knows = h }

  pub told_hole : (slots : List (Option (Kept T))) (upto next : ℕ) (place_of : ℕ → Option ℕ) → AreTold slots upto place_of
      → slice_index_or slots upto None ≡ None → next ≡ upto + 1 → AreTold slots next place_of
  told_hole slots upto next place_of h hole more = record {
    there = λ place k p s. elim (where_is place upto) [
      | before lower ↦ h.there place k lower s
      | there same ↦ absurd (none-some _ (sym hole ∙ ap (λ q. slice_index_or slots q None) (sym same) ∙ s))
      | behind above ↦ absurd (omega (arith, p, more, above))
    ];
    knows = h.knows;
  }

  pub told_more : (slots : List (Option (Kept T))) (upto next : ℕ) (k : Kept T) (was is : ℕ → Option ℕ) → AreTold slots upto was → HoldsAt slots upto k
      → is k.key ≡ Some upto → ((other : ℕ) → other ≢ k.key → is other ≡ was other) → next ≡ upto + 1 → AreTold slots next is
  told_more slots upto next k was is h at new others more = record {
    there = λ place j p s. elim (where_is place upto) [
      | before lower ↦
          let differ : j.key ≢ k.key = λ same.
          let equal : place ≡ upto = same_place slots place upto j k h.knows.distinct s at same in
          omega (arith, lower, equal) in
          others j.key differ ∙ h.there place j lower s
      | there same ↦
          let item : j ≡ k = same_Some _ _ (sym s ∙ ap (λ q. slice_index_or slots q None) same ∙ at) in
          ap (λ i. is i.key) item ∙ new ∙ ap Some (sym same)
      | behind above ↦ absurd (omega (arith, p, more, above))
    ];
    knows = record {
      distinct = h.knows.distinct;
      known = λ key has. elim (cases_eq key k.key) [
        | inl same ↦ (upto, ap is same ∙ new)
        | inr differ ↦ let found = h.knows.known key has in (found.0, others key differ ∙ found.1)
      ];
      only = λ key place s. elim (cases_eq key k.key) [
        | inl same ↦ subst (HasKey (kept slots)) (sym same) (has_key slots upto k at)
        | inr differ ↦ h.knows.only key place (sym (others key differ) ∙ s)
      ];
    };
  }

  pub told_all : (slots : List (Option (Kept T))) (upto : ℕ) (place_of : ℕ → Option ℕ) → AreTold slots upto place_of → length slots ≤ upto
      → IsLinked slots place_of
  told_all slots upto place_of h all = record {
    there = λ place k s. h.there place k (omega (arith, all, stands_inside slots place k s)) s;
    back = λ key place s.
        let found = key_stands slots key (h.knows.only key place s) in
        let told : place_of found.1.key ≡ Some found.0 = h.there found.0 found.1 (omega (arith, all, stands_inside slots found.0 found.1 found.2)) found.2 in
        let same : found.0 ≡ place = same_Some _ _ (sym told ∙ ap place_of found.3 ∙ s) in
        (found.1, subst (λ p. HoldsAt slots p found.1) same found.2, found.3);
  }
