-- Laws of marks beside slots with holes.
use Rattle.std.proofs.Common.{true, false, true≢false, slice_index_or, suc, zero, ◌≡◌, ◌<◌, ◌≤◌, ◌+◌, ℕ, List, [], ◌∷◌, ◌++◌, Option, Some, None, is_some, length, take, drop, slice_set, slice_get, inl, inr, refl, sym, ◌∙◌, ap, subst, arith}
use Rattle.std.proofs.lemmas.Option.{same_Some, none-some, slice_get_within, get_or_from_slice_get}
use Rattle.std.proofs.lemmas.List.{append_assoc, append-nil, drop_more, drop_all, length-set, take_more_set, drop-set-lt}
use Rattle.std.specs.List.{filter}
use Rattle.si_defs.specs.Substitutions.{IsAmong}
use Rattle.si_defs.proofs.ListLaws.{get_some}
use Rattle.si_keyed.specs.Keyed.{HasKey, IsTakenOut}
use Rattle.si_keyed.specs.KeyedSlots.{kept, marked, without_holes, HoldsAt}
use Rattle.si_keyed.specs.Placed.{placed_from, HaveMarks}
use Rattle.si_keyed.proofs.PlacedLaws.{held_as}
use Rattle.si_keyed.specs.declared.keyed.Kept.{Kept}

drop_got : {X : Type 0} (xs : List X) (n : ℕ) (x : X) → slice_get xs n ≡ Some x → drop n xs ≡ x ∷ drop (n + 1) xs
drop_got xs n x got = drop_more xs n x (slice_get_within xs n x got) ∙ ap (λ y. y ∷ drop (n + 1) xs) (get_or_from_slice_get xs n x x got)

drop_slot : {T : Type 0} (slots : List (Option (Kept T))) (place : ℕ) (read : Option (Kept T)) → place < length slots → read ≡ slice_index_or slots place read
    → drop place slots ≡ read ∷ drop (place + 1) slots
drop_slot slots place read inside is = drop_more slots place read inside ∙ ap (λ s. s ∷ drop (place + 1) slots) (sym is)

module _ {T M : Type 0} where
  -- ---- one more mark
  pub marked_pushed : (slots : List (Option (Kept T))) (marks : List M) (k : Kept T) (m : M) → length marks ≡ length slots
      → marked (slots ++ Some k ∷ []) (marks ++ m ∷ []) ≡ marked slots marks ++ (k.key, m) ∷ []
  marked_pushed [] [] k m e = refl
  marked_pushed [] (n ∷ marks) k m e = absurd (omega (arith, e))
  marked_pushed (slot ∷ slots) [] k m e = absurd (omega (arith, e))
  marked_pushed (None ∷ slots) (n ∷ marks) k m e = marked_pushed slots marks k m (omega (arith, e))
  marked_pushed (Some j ∷ slots) (n ∷ marks) k m e = ap (λ l. (j.key, n) ∷ l) (marked_pushed slots marks k m (omega (arith, e)))

  pub key_marked : (slots : List (Option (Kept T))) (marks : List M) (key : ℕ) → HasKey (marked slots marks) key → HasKey (kept slots) key
  key_marked [] marks key h = h
  key_marked (slot ∷ slots) [] key h = absurd h
  key_marked (None ∷ slots) (n ∷ marks) key h = key_marked slots marks key h
  key_marked (Some j ∷ slots) (n ∷ marks) key (inl e) = inl e
  key_marked (Some j ∷ slots) (n ∷ marks) key (inr h) = inr (key_marked slots marks key h)

  -- ---- a mark taken out
  pub mark_taken : (slots : List (Option (Kept T))) (marks : List M) (place : ℕ) (k : Kept T) → HoldsAt slots place k → length marks ≡ length slots
      → (m : M) × IsTakenOut (marked slots marks) k.key m (marked (slice_set slots place None) marks)
  mark_taken [] marks place k h e = absurd (none-some _ h)
  mark_taken (slot ∷ slots) [] place k h e = absurd (omega (arith, e))
  mark_taken (None ∷ slots) (n ∷ marks) zero k h e = absurd (none-some _ h)
  mark_taken (Some j ∷ slots) (n ∷ marks) zero k h e = (
    n,
    record {
      before = [];
      after = marked slots marks;
      whole = ap (λ i. (i.key, n) ∷ marked slots marks) (same_Some _ _ h);
      rest = refl;
    },
  )
  mark_taken (None ∷ slots) (n ∷ marks) (suc place) k h e = mark_taken slots marks place k h (omega (arith, e))
  mark_taken (Some j ∷ slots) (n ∷ marks) (suc place) k h e =
      let later = mark_taken slots marks place k h (omega (arith, e)) in (
        later.0,
        record {
          before = (j.key, n) ∷ later.1.before;
          after = later.1.after;
          whole = ap (λ l. (j.key, n) ∷ l) later.1.whole;
          rest = ap (λ l. (j.key, n) ∷ l) later.1.rest;
        },
      )

  -- ---- the mark at a place
  pub mark_there : (slots : List (Option (Kept T))) (marks : List M) (place : ℕ) (k : Kept T) → HoldsAt slots place k → length marks ≡ length slots
      → (m : M) × (slice_get marks place ≡ Some m) × IsAmong (marked slots marks) (k.key, m)
  mark_there [] marks place k h e = absurd (none-some _ h)
  mark_there (slot ∷ slots) [] place k h e = absurd (omega (arith, e))
  mark_there (None ∷ slots) (n ∷ marks) zero k h e = absurd (none-some _ h)
  mark_there (Some j ∷ slots) (n ∷ marks) zero k h e = (n, refl, inl (ap (λ i. (i.key, n)) (same_Some _ _ h)))
  mark_there (None ∷ slots) (n ∷ marks) (suc place) k h e = mark_there slots marks place k h (omega (arith, e))
  mark_there (Some j ∷ slots) (n ∷ marks) (suc place) k h e =
      let later = mark_there slots marks place k h (omega (arith, e)) in (later.0, later.1, inr later.2)

  pub have_marks : (slots : List (Option (Kept T))) (marks : List M) → length marks ≡ length slots → HaveMarks (placed_from 0 slots) (marked slots marks) marks
  have_marks slots marks e place key item there =
      let held = held_as slots place key item there in
      let m = mark_there slots marks place held.0 held.1 e in (
        m.0,
        m.1,
        subst (λ k. IsAmong (marked slots marks) (k, m.0)) held.2 m.2,
      )

  -- ---- holes closed
  pub marked_closed : (slots : List (Option (Kept T))) (marks : List M) → length marks ≡ length slots
      → marked (filter is_some slots) (without_holes slots marks) ≡ marked slots marks
  marked_closed [] marks e = refl
  marked_closed (slot ∷ slots) [] e = absurd (omega (arith, e))
  marked_closed (None ∷ slots) (n ∷ marks) e = marked_closed slots marks (omega (arith, e))
  marked_closed (Some j ∷ slots) (n ∷ marks) e = ap (λ l. (j.key, n) ∷ l) (marked_closed slots marks (omega (arith, e)))

  pub closed_length : (slots : List (Option (Kept T))) (marks : List M) → length marks ≡ length slots
      → length (without_holes slots marks) ≡ length (filter is_some slots)
  closed_length [] marks e = refl
  closed_length (slot ∷ slots) [] e = absurd (omega (arith, e))
  closed_length (None ∷ slots) (n ∷ marks) e = closed_length slots marks (omega (arith, e))
  closed_length (Some j ∷ slots) (n ∷ marks) e = ap suc (closed_length slots marks (omega (arith, e)))

  -- Of the marks up to a place, so many were moved to the front.
  pub record IsClosing (slots : List (Option (Kept T))) (old now : List M) (count place : ℕ) : Type 0 where
    pub within : count ≤ place
    pub number : length now ≡ length slots
    pub left : without_holes slots old ≡ take count now ++ without_holes (drop place slots) (drop place now)

  pub closing_hole : (slots : List (Option (Kept T))) (old now : List M) (count place : ℕ) (read : Option (Kept T)) → place < length slots
      → read ≡ slice_index_or slots place read → is_some read ≡ false → IsClosing slots old now count place → IsClosing slots old now count (place + 1)
  closing_hole slots old now count place None inside is hole h =
      let m = get_some now place (omega (arith, inside, h.number)) in
      record {
        within = omega (arith, h.within);
        number = h.number;
        left = h.left ∙ (λ i. take count now ++ without_holes (drop_slot slots place None inside is i) (drop_got now place m.0 m.1 i));
      }
  closing_hole slots old now count place (Some k) inside is hole h = absurd (true≢false hole)

  pub closing_item : (slots : List (Option (Kept T))) (old now new : List M) (count place : ℕ) (read : Option (Kept T)) → place < length slots
      → read ≡ slice_index_or slots place read → is_some read ≡ true → (m : M) × (slice_get now place ≡ Some m) × (new ≡ slice_set now count m)
      → IsClosing slots old now count place → IsClosing slots old new (count + 1) (place + 1)
  closing_item slots old now new count place None inside is item moved h = absurd (true≢false (sym item))
  closing_item slots old now new count place (Some k) inside is item (m, got, set) h =
      subst (λ l. IsClosing slots old l (count + 1) (place + 1)) (sym set) (record {
        within = omega (arith, h.within);
        number = length-set now count m ∙ h.number;
        left =
            h.left
            ∙ (λ i. take count now ++ without_holes (drop_slot slots place (Some k) inside is i) (drop_got now place m got i))
            ∙ sym (append_assoc (take count now) (m ∷ []) (without_holes (drop (place + 1) slots) (drop (place + 1) now)))
            ∙ (λ i. sym (take_more_set now count m (omega (arith, h.within, inside, h.number))) i ++ without_holes (drop (place + 1) slots) (sym (drop-set-lt (place + 1) now count m (omega (arith, h.within))) i));
      })

  pub closing_end : (slots : List (Option (Kept T))) (old now : List M) (count place : ℕ) → length slots ≤ place → IsClosing slots old now count place
      → take count now ≡ without_holes slots old
  closing_end slots old now count place past h =
      sym (h.left ∙ (λ i. take count now ++ without_holes (drop_all place slots past i) (drop place now)) ∙ append-nil (take count now))
