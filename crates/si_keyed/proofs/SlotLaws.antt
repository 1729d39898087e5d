-- Laws of slots with holes: what is kept there, and how many stand before a place.
use Rattle.std.proofs.Common.{suc, zero, ◌≡◌, ◌<◌, ◌≤◌, ◌+◌, ℕ, List, [], ◌∷◌, ◌++◌, Option, Some, None, is_some, length, take, drop, slice_index_or, slice_set, slice_get, inl, inr, refl, ◌∙◌, ap, subst, arith}
use Rattle.std.proofs.lemmas.Option.{same_Some, none-some}
use Rattle.std.specs.List.{filter}
use Rattle.si_defs.specs.Substitutions.{IsAmong}
use Rattle.si_keyed.specs.Halves.{sum_of}
use Rattle.si_keyed.specs.Keyed.{HasKey, IsTakenOut}
use Rattle.si_keyed.specs.KeyedSlots.{kept, flags, HoldsAt}
use Rattle.si_keyed.specs.declared.keyed.Kept.{Kept}

pub get_next : {X : Type 0} (x : X) (xs : List X) (n : ℕ) → slice_get (x ∷ xs) (1 + n) ≡ slice_get xs n
get_next x xs n = subst (λ m. slice_get (x ∷ xs) m ≡ slice_get xs n) {x = suc n} (omega arith) refl

module _ {T : Type 0} where
  -- an item with its key
  abbrev pub entry : Kept T → ℕ × T
  entry k = (k.key, k.item)

  pub stands_inside : (slots : List (Option (Kept T))) (place : ℕ) (k : Kept T) → HoldsAt slots place k → place < length slots
  stands_inside [] place k h = absurd (none-some _ h)
  stands_inside (s ∷ slots) zero k h = omega arith
  stands_inside (s ∷ slots) (suc place) k h = omega (arith, stands_inside slots place k h)

  -- ---- one more item
  pub kept_pushed : (slots : List (Option (Kept T))) (k : Kept T) → kept (slots ++ Some k ∷ []) ≡ kept slots ++ entry k ∷ []
  kept_pushed [] k = refl
  kept_pushed (None ∷ slots) k = kept_pushed slots k
  kept_pushed (Some j ∷ slots) k = ap (λ l. entry j ∷ l) (kept_pushed slots k)

  pub flags_pushed : (slots : List (Option (Kept T))) (k : Kept T) → flags (slots ++ Some k ∷ []) ≡ flags slots ++ 1 ∷ []
  flags_pushed [] k = refl
  flags_pushed (None ∷ slots) k = ap (λ l. 0 ∷ l) (flags_pushed slots k)
  flags_pushed (Some j ∷ slots) k = ap (λ l. 1 ∷ l) (flags_pushed slots k)

  -- ---- an item taken out
  pub kept_around : (slots : List (Option (Kept T))) (place : ℕ) (k : Kept T) → HoldsAt slots place k
      → kept slots ≡ kept (take place slots) ++ entry k ∷ kept (drop (suc place) slots)
  kept_around [] place k h = absurd (none-some _ h)
  kept_around (None ∷ slots) zero k h = absurd (none-some _ h)
  kept_around (Some j ∷ slots) zero k h = ap (λ i. entry i ∷ kept slots) (same_Some _ _ h)
  kept_around (None ∷ slots) (suc place) k h = kept_around slots place k h
  kept_around (Some j ∷ slots) (suc place) k h = ap (λ l. entry j ∷ l) (kept_around slots place k h)

  kept_without : (slots : List (Option (Kept T))) (place : ℕ) (k : Kept T) → HoldsAt slots place k
      → kept (slice_set slots place None) ≡ kept (take place slots) ++ kept (drop (suc place) slots)
  kept_without [] place k h = absurd (none-some _ h)
  kept_without (s ∷ slots) zero k h = refl
  kept_without (None ∷ slots) (suc place) k h = kept_without slots place k h
  kept_without (Some j ∷ slots) (suc place) k h = ap (λ l. entry j ∷ l) (kept_without slots place k h)

  pub taken_out : (slots : List (Option (Kept T))) (place : ℕ) (k : Kept T) → HoldsAt slots place k
      → IsTakenOut (kept slots) k.key k.item (kept (slice_set slots place None))
  taken_out slots place k h = record {
    before = kept (take place slots);
    after = kept (drop (suc place) slots);
    whole = kept_around slots place k h;
    rest = kept_without slots place k h;
  }

  pub flag_there : (slots : List (Option (Kept T))) (place : ℕ) (k : Kept T) → HoldsAt slots place k → slice_index_or (flags slots) place 0 ≡ 1
  flag_there [] place k h = absurd (none-some _ h)
  flag_there (None ∷ slots) zero k h = absurd (none-some _ h)
  flag_there (Some j ∷ slots) zero k h = refl
  flag_there (None ∷ slots) (suc place) k h = flag_there slots place k h
  flag_there (Some j ∷ slots) (suc place) k h = flag_there slots place k h

  pub flags_without : (slots : List (Option (Kept T))) (place : ℕ) → flags (slice_set slots place None) ≡ slice_set (flags slots) place 0
  flags_without [] place = refl
  flags_without (None ∷ slots) zero = refl
  flags_without (Some j ∷ slots) zero = refl
  flags_without (None ∷ slots) (suc place) = ap (λ l. 0 ∷ l) (flags_without slots place)
  flags_without (Some j ∷ slots) (suc place) = ap (λ l. 1 ∷ l) (flags_without slots place)

  -- ---- numbers
  pub flags_length : (slots : List (Option (Kept T))) → length (flags slots) ≡ length slots
  flags_length [] = refl
  flags_length (None ∷ slots) = ap suc (flags_length slots)
  flags_length (Some j ∷ slots) = ap suc (flags_length slots)

  pub flags_total : (slots : List (Option (Kept T))) → sum_of (flags slots) ≡ length (kept slots)
  flags_total [] = refl
  flags_total (None ∷ slots) = let more : sum_of (flags slots) ≡ length (kept slots) = flags_total slots in omega (arith, more)
  flags_total (Some j ∷ slots) = let more : sum_of (flags slots) ≡ length (kept slots) = flags_total slots in omega (arith, more)

  pub kept_bound : (slots : List (Option (Kept T))) → length (kept slots) ≤ length slots
  kept_bound [] = omega arith
  kept_bound (None ∷ slots) = omega (arith, kept_bound slots)
  kept_bound (Some j ∷ slots) = omega (arith, kept_bound slots)

  -- ---- ranks
  -- the item at a place has as many before it as stand at the places before
  pub rank_there : (slots : List (Option (Kept T))) (place : ℕ) (k : Kept T) → HoldsAt slots place k
      → slice_get (kept slots) (sum_of (take place (flags slots))) ≡ Some (entry k)
  rank_there [] place k h = absurd (none-some _ h)
  rank_there (None ∷ slots) zero k h = absurd (none-some _ h)
  rank_there (Some j ∷ slots) zero k h = ap (λ i. Some (entry i)) (same_Some _ _ h)
  rank_there (None ∷ slots) (suc place) k h =
      subst (λ m. slice_get (kept slots) m ≡ Some (entry k)) {x = sum_of (take place (flags slots))} (omega arith) (rank_there slots place k h)
  rank_there (Some j ∷ slots) (suc place) k h = get_next (entry j) (kept slots) (sum_of (take place (flags slots))) ∙ rank_there slots place k h

  -- where something is counted, an item stands, and just one
  pub counted_there : (slots : List (Option (Kept T))) (place rest : ℕ) → rest < slice_index_or (flags slots) place 0
      → (k : Kept T) × HoldsAt slots place k × (rest ≡ 0)
  counted_there [] place rest h = absurd (omega (arith, h))
  counted_there (None ∷ slots) zero rest h = absurd (omega (arith, h))
  counted_there (Some j ∷ slots) zero rest h = (j, refl, omega (arith, h))
  counted_there (None ∷ slots) (suc place) rest h = counted_there slots place rest h
  counted_there (Some j ∷ slots) (suc place) rest h = counted_there slots place rest h

  -- the item of a rank is found at its place
  pub found_there : (slots : List (Option (Kept T))) (place rest position : ℕ) → sum_of (take place (flags slots)) + rest ≡ position
      → rest < slice_index_or (flags slots) place 0
      → (k : Kept T) × HoldsAt slots place k × (slice_get (kept slots) position ≡ Some (entry k))
  found_there slots place rest position is h =
      let k = counted_there slots place rest h in (
        k.0,
        k.1,
        subst (λ m. slice_get (kept slots) m ≡ Some (entry k.0)) {x = sum_of (take place (flags slots))} (omega (arith, is, k.2)) (rank_there slots place k.0 k.1),
      )

  -- ---- keys
  pub among_there : (slots : List (Option (Kept T))) (place : ℕ) (k : Kept T) → HoldsAt slots place k → IsAmong (kept slots) (entry k)
  among_there [] place k h = absurd (none-some _ h)
  among_there (None ∷ slots) zero k h = absurd (none-some _ h)
  among_there (Some j ∷ slots) zero k h = inl (ap (λ i. entry i) (same_Some _ _ h))
  among_there (None ∷ slots) (suc place) k h = among_there slots place k h
  among_there (Some j ∷ slots) (suc place) k h = inr (among_there slots place k h)

  pub key_stands : (slots : List (Option (Kept T))) (key : ℕ) → HasKey (kept slots) key
      → (place : ℕ) × (k : Kept T) × HoldsAt slots place k × (k.key ≡ key)
  key_stands [] key h = absurd h
  key_stands (None ∷ slots) key h = let found = key_stands slots key h in (suc found.0, found.1, found.2, found.3)
  key_stands (Some j ∷ slots) key (inl h) = (zero, j, refl, h)
  key_stands (Some j ∷ slots) key (inr h) = let found = key_stands slots key h in (suc found.0, found.1, found.2, found.3)

  -- ---- holes closed
  pub kept_filtered : (slots : List (Option (Kept T))) → kept (filter is_some slots) ≡ kept slots
  kept_filtered [] = refl
  kept_filtered (None ∷ slots) = kept_filtered slots
  kept_filtered (Some j ∷ slots) = ap (λ l. entry j ∷ l) (kept_filtered slots)
