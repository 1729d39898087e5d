-- Laws of what is kept beside the slots: keys that lead to places, and counts.
use Rattle.std.proofs.Common.{suc, ◌≡◌, ◌≢◌, ◌<◌, ◌≤◌, ◌+◌, ◌-◌, ℕ, List, [], ◌∷◌, ◌++◌, Option, Some, None, IsSome, is_some, count_by, length, take, replicate, slice_index_or, slice_set, slice_get, refl, sym, ◌∙◌, ap, subst, arith}
use Rattle.std.proofs.lemmas.Option.{same_Some}
use Rattle.std.specs.List.{filter}
use Rattle.std.proofs.lemmas.List.{get_or_read, length-append}
use Rattle.slab.specs.Slab.{Slab, get, slab_len, Updates}
use Rattle.si_defs.specs.Substitutions.{IsAmong}
use Rattle.si_keyed.specs.Halves.{sum_of}
use Rattle.si_keyed.specs.Keyed.{HasKey, HasKeyAt, IsTakenOut}
use Rattle.si_keyed.specs.KeyedSlots.{kept, flags, HaveFewHoles, HoldsAt, IsLinked, KnowsKeys, IsIndexed}
use Rattle.si_keyed.specs.declared.keyed.Kept.{Kept}
use Rattle.si_keyed.proofs.SlotLaws.{entry, stands_inside, kept_pushed, flags_pushed, taken_out, flag_there, flags_without, flags_length, flags_total, kept_bound, rank_there, found_there, among_there, kept_filtered}
use Rattle.si_keyed.proofs.KeyLaws.{key_at}
use Rattle.si_keyed.proofs.LinkLaws.{linked_pushed, linked_without, linked_knows}

-- a value there, by an equation
pub some_there : {X : Type 0} {o : Option X} (x : X) → o ≡ Some x → IsSome o
some_there x is = ap is_some is

module _ {T : Type 0} where
  -- ---- an item that was read
  pub read_there : (slots : List (Option (Kept T))) (place : ℕ) (read : Option (Kept T)) (k : Kept T) → HoldsAt slots place k
      → read ≡ slice_index_or slots place read → read ≡ Some k
  read_there slots place read k h reads = get_or_read slots place read (stands_inside slots place k h) reads None ∙ h

  pub slot_is : (slots : List (Option (Kept T))) (place : ℕ) (read slot : Option (Kept T)) → place < length slots → read ≡ slice_index_or slots place read
      → read ≡ slot → slice_index_or slots place None ≡ slot
  slot_is slots place read slot p reads is = sym (get_or_read slots place read p reads None) ∙ is

  -- ---- an item by its key
  pub got : (slots : List (Option (Kept T))) (place_of : ℕ → Option ℕ) (key place : ℕ) (read : Option (Kept T)) (k : Kept T) → IsLinked slots place_of
      → Some place ≡ place_of key → read ≡ slice_index_or slots place read → Some k ≡ read → IsAmong (kept slots) (key, k.item)
  got slots place_of key place read k h leads reads is =
      let found = h.back key place (sym leads) in
      let item : found.0 ≡ k = same_Some _ _ (sym (read_there slots place read found.0 found.1 reads) ∙ sym is) in
      subst (λ n. IsAmong (kept slots) (n, k.item)) (ap (λ i. i.key) (sym item) ∙ found.2) (among_there slots place k (found.1 ∙ ap Some item))

  pub is_known : (slots : List (Option (Kept T))) (place_of : ℕ → Option ℕ) (key : ℕ) → IsLinked slots place_of → HasKey (kept slots) key → IsSome (place_of key)
  is_known slots place_of key h has = let found = (linked_knows slots place_of h).known key has in some_there found.0 found.1

  -- ---- positions
  pub place_within : (slots : List (Option (Kept T))) (ranks : List ℕ) (place_of : ℕ → Option ℕ) (key place : ℕ) → IsLinked slots place_of → ranks ≡ flags slots
      → place_of key ≡ Some place → place < length ranks
  place_within slots ranks place_of key place h counted leads =
      let found = h.back key place leads in
      omega (arith, ap length counted, flags_length slots, stands_inside slots place found.0 found.1)

  pub total_bound : (slots : List (Option (Kept T))) (ranks : List ℕ) → ranks ≡ flags slots → sum_of ranks ≤ length slots
  total_bound slots ranks counted = omega (arith, ap sum_of counted, flags_total slots, kept_bound slots)

  pub total_kept : (slots : List (Option (Kept T))) (ranks : List ℕ) → ranks ≡ flags slots → sum_of ranks ≡ length (kept slots)
  total_kept slots ranks counted = ap sum_of counted ∙ flags_total slots

  pub position_there : (slots : List (Option (Kept T))) (ranks : List ℕ) (place_of : ℕ → Option ℕ) (key place position : ℕ) → IsLinked slots place_of
      → ranks ≡ flags slots → place_of key ≡ Some place → position ≡ sum_of (take place ranks) → HasKeyAt (kept slots) position key
  position_there slots ranks place_of key place position h counted leads is =
      let found = h.back key place leads in
      subst
      (λ n. HasKeyAt (kept slots) n key)
      (ap (λ l. sum_of (take place l)) (sym counted) ∙ sym is)
      (key_at (kept slots) (sum_of (take place (flags slots))) (entry found.0) (rank_there slots place found.0 found.1) ∙ ap Some found.2)

  pub found_at : (slots : List (Option (Kept T))) (ranks : List ℕ) (place rest position : ℕ) → ranks ≡ flags slots
      → sum_of (take place ranks) + rest ≡ position → rest < slice_index_or ranks place 0
      → (k : Kept T) × HoldsAt slots place k × (slice_get (kept slots) position ≡ Some (entry k))
  found_at slots ranks place rest position counted before there =
      found_there slots place rest position (ap (λ l. sum_of (take place l) + rest) (sym counted) ∙ before) (subst (λ l. rest < slice_index_or l place 0) counted there)

  -- ---- the same tables
  pub indexed_same : (slots now : List (Option (Kept T))) (old new : Slab ℕ) (was ranks : List ℕ) → IsIndexed slots old was → now ≡ slots → new.slots ≡ old.slots
      → ranks ≡ was → IsIndexed now new ranks
  indexed_same slots now old new was ranks h same table counts =
      let linked : IsLinked slots (λ key. get new key) = subst (λ t. IsLinked slots (λ key. slice_index_or t key None)) (sym table) h.linked in
      record {
        linked = subst (λ s. IsLinked s (λ key. get new key)) (sym same) linked;
        number = ap (λ t. count_by is_some t) table ∙ h.number ∙ ap (λ s. length (kept s)) (sym same);
        counted = counts ∙ h.counted ∙ ap flags (sym same);
      }

  -- ---- one more item
  pub indexed_pushed : (slots new : List (Option (Kept T))) (old places : Slab ℕ) (was ranks : List ℕ) (k : Kept T) (place : ℕ) → IsIndexed slots old was
      → get old k.key ≡ None → Updates old places k.key (Some place) → place ≡ length slots → slab_len places ≡ slab_len old + 1
      → ranks ≡ was ++ 1 ∷ [] → new ≡ slots ++ Some k ∷ [] → IsIndexed new places ranks
  indexed_pushed slots new old places was ranks k place h free updates last number counts pushed =
      subst (λ s. IsIndexed s places ranks) (sym pushed) (record {
        linked = linked_pushed slots k (λ key. get old key) (λ key. get places key) h.linked free (updates.changed ∙ ap Some last) updates.others;
        number = omega (arith, number, h.number, ap length (kept_pushed slots k), length-append (kept slots) (entry k ∷ []));
        counted = counts ∙ ap (λ l. l ++ 1 ∷ []) h.counted ∙ sym (flags_pushed slots k);
      })

  pub few_pushed : (slots new : List (Option (Kept T))) (k : Kept T) → HaveFewHoles slots → new ≡ slots ++ Some k ∷ [] → HaveFewHoles new
  few_pushed slots new k few pushed =
      subst (λ s. HaveFewHoles s) (sym pushed)
      (omega (arith, few, length-append slots (Some k ∷ []), ap length (kept_pushed slots k), length-append (kept slots) (entry k ∷ [])))

  -- ---- one fewer
  one_fewer : (old new : List (ℕ × T)) (key : ℕ) (item : T) → IsTakenOut old key item new → length new + 1 ≡ length old
  one_fewer old new key item h =
      omega (arith, ap length h.whole, ap length h.rest, length-append h.before ((key, item) ∷ h.after), length-append h.before h.after)

  pub indexed_without : (slots : List (Option (Kept T))) (old places : Slab ℕ) (was ranks : List ℕ) (key place : ℕ) → IsIndexed slots old was → get old key ≡ Some place
      → Updates old places key None → slab_len places + 1 ≡ slab_len old → ranks ≡ slice_set was place (slice_index_or was place 0 - 1)
      → IsIndexed (slice_set slots place None) places ranks
  indexed_without slots old places was ranks key place h leads updates number counts =
      let found = h.linked.back key place leads in
      let gone : get places found.0.key ≡ None = ap (get places) found.2 ∙ updates.changed in
      let others : (other : ℕ) → other ≢ found.0.key → get places other ≡ get old other = λ other differ. updates.others other (λ same. differ (same ∙ sym found.2)) in
      let flag : slice_index_or was place 0 ≡ 1 = ap (λ l. slice_index_or l place 0) h.counted ∙ flag_there slots place found.0 found.1 in
      record {
        linked = linked_without slots place found.0 (λ key. get old key) (λ key. get places key) h.linked found.1 gone others;
        number = omega (arith, number, h.number, one_fewer _ _ _ _ (taken_out slots place found.0 found.1));
        counted = counts ∙ ap (λ n. slice_set was place (n - 1)) flag ∙ ap (λ l. slice_set l place 0) h.counted ∙ sym (flags_without slots place);
      }

  -- the item that was read at the place is the one of the key
  pub took : (slots : List (Option (Kept T))) (place_of : ℕ → Option ℕ) (key place : ℕ) (k : Kept T) (items new : List (ℕ × T)) → IsLinked slots place_of
      → place_of key ≡ Some place → HoldsAt slots place k → kept slots ≡ items → new ≡ kept (slice_set slots place None) → IsTakenOut items key k.item new
  took slots place_of key place k items new h leads at is rest =
      let found = h.back key place leads in
      let same : k.key ≡ key = ap (λ i. i.key) (same_Some _ _ (sym at ∙ found.1)) ∙ found.2 in
      subst (λ n. IsTakenOut items n k.item new) same
      (subst (λ l. IsTakenOut l k.key k.item new) is
      (subst (λ l. IsTakenOut (kept slots) k.key k.item l) (sym rest) (taken_out slots place k at)))

  -- ---- holes closed
  all_flags : (slots : List (Option (Kept T))) → flags (filter is_some slots) ≡ replicate (length (filter is_some slots)) 1
  all_flags [] = refl
  all_flags (None ∷ slots) = all_flags slots
  all_flags (Some j ∷ slots) = ap (λ l. 1 ∷ l) (all_flags slots)

  filtered_shorter : (slots : List (Option (Kept T))) → length (filter is_some slots) ≤ length slots
  filtered_shorter [] = omega arith
  filtered_shorter (None ∷ slots) = omega (arith, filtered_shorter slots)
  filtered_shorter (Some j ∷ slots) = omega (arith, filtered_shorter slots)

  pub closed_knows : (slots now : List (Option (Kept T))) (place_of : ℕ → Option ℕ) → IsLinked slots place_of → now ≡ filter is_some slots
      → KnowsKeys (kept now) place_of
  closed_knows slots now place_of h closed =
      subst (λ l. KnowsKeys l place_of) (sym (ap kept closed ∙ kept_filtered slots)) (linked_knows slots place_of h)

  pub closed_within : (slots now : List (Option (Kept T))) (ranks : List ℕ) → ranks ≡ flags slots → now ≡ filter is_some slots → length now ≤ length ranks
  closed_within slots now ranks counted closed =
      omega (arith, ap length counted, flags_length slots, ap length closed, filtered_shorter slots)

  pub closed_same : (slots now : List (Option (Kept T))) → now ≡ filter is_some slots → kept now ≡ kept slots
  closed_same slots now closed = ap kept closed ∙ kept_filtered slots

  -- closed slots are all of items
  closed_full : (slots : List (Option (Kept T))) → length (filter is_some slots) ≡ length (kept slots)
  closed_full [] = refl
  closed_full (None ∷ slots) = closed_full slots
  closed_full (Some j ∷ slots) = ap suc (closed_full slots)

  pub few_closed : (slots now : List (Option (Kept T))) → now ≡ filter is_some slots → HaveFewHoles now
  few_closed slots now closed =
      omega (arith, ap length closed, closed_full slots, ap length (closed_same slots now closed))

  pub indexed_closed : (slots now : List (Option (Kept T))) (old places : Slab ℕ) (was ranks : List ℕ) (places_left : ℕ) → IsIndexed slots old was → now ≡ filter is_some slots
      → IsLinked now (λ key. get places key) → slab_len places ≡ slab_len old → places_left ≡ length now → ranks ≡ replicate places_left 1 → IsIndexed now places ranks
  indexed_closed slots now old places was ranks places_left h closed linked number left ones = record {
    linked = linked;
    number = number ∙ h.number ∙ ap length (sym (closed_same slots now closed));
    counted = ones ∙ ap (λ n. replicate n 1) (left ∙ ap length closed) ∙ sym (all_flags slots) ∙ ap flags (sym closed);
  }
