-- Names of which the first few are compared one by one, and the others are in a set.
use Rattle.std.proofs.Common.{◌≡◌, ℕ, suc, ◌+◌, ◌≤◌, ◌<◌, Bool, true, false, true≢false, cond, not, ◌||◌, List, [], ◌∷◌, ◌++◌, length, take, drop, get_or, Some, refl, ap, subst, sym, ◌∙◌, arith, length-append}
use Rattle.std.specs.Prelude.{bytes_eq}
use Rattle.std.specs.List.{list_any, position_or_len}
use Rattle.std.proofs.lemmas.List.{map-append, length-map, drop_more, drop_all, take-append-drop, length-take-le}
use Rattle.std.proofs.lemmas.List.Folds.{list_any-append}
use Rattle.indexmap.specs.IndexSet.{insert_key}
use Rattle.si_flat.specs.Rooms.{GatheredNames, names_room}
use Rattle.si_flat.specs.Flattening.{FindsPlace}
use Rattle.si_term.proofs.Inserted.{Lent, lent_eq, shown, any-shown, place-shown}

module _ {V : Type 0} (p : V → Bool) where
  -- those before number i fail the test
  pub record IsLeft (xs : List V) (i : ℕ) : Type 0 where
    pub any : list_any p xs ≡ list_any p (drop i xs)
    pub place : position_or_len p xs ≡ i + position_or_len p (drop i xs)

  pub left_at_first : (xs : List V) → IsLeft xs 0
  left_at_first xs = record { any = refl; place = omega arith }

  pub left_more : (xs : List V) (i : ℕ) (d : V) → i < length xs → p (get_or xs i d) ≡ false → IsLeft xs i → IsLeft xs (i + 1)
  left_more xs i d inside fails left =
      let next = drop_more xs i d inside in
      let behind = drop (i + 1) xs in
      let place = ap (λ l. i + position_or_len p l) next ∙ ap (λ b. i + cond (not b) (1 + position_or_len p behind) 0) fails in
      record {
        any = left.any ∙ ap (list_any p) next ∙ ap (λ b. b || list_any p behind) fails;
        place = omega (arith, left.place, place);
      }

  pub left_found : (xs : List V) (i : ℕ) (d : V) → i < length xs → p (get_or xs i d) ≡ true → IsLeft xs i → FindsPlace p xs (Some i)
  left_found xs i d inside passes left =
      let next = drop_more xs i d inside in
      let behind = drop (i + 1) xs in
      let place = ap (λ l. i + position_or_len p l) next ∙ ap (λ b. i + cond (not b) (1 + position_or_len p behind) 0) passes in (
        left.any ∙ ap (list_any p) next ∙ ap (λ b. b || list_any p behind) passes,
        omega (arith, left.place, place),
        inside,
      )

  pub left_none : (xs : List V) (i : ℕ) → length xs ≤ i → IsLeft xs i → list_any p xs ≡ false
  left_none xs i ended left = left.any ∙ ap (list_any p) (drop_all i xs ended)

  pub none_behind : (xs : List V) → list_any p xs ≡ false → position_or_len p xs ≡ length xs
  none_behind [] h = refl
  none_behind (x ∷ xs) h = by (p x) h (none_behind xs) where
    by : (b : Bool) → (b || list_any p xs) ≡ false → (list_any p xs ≡ false → position_or_len p xs ≡ length xs)
        → cond (not b) (1 + position_or_len p xs) 0 ≡ suc (length xs)
    by true h rest = absurd (true≢false h)
    by false h rest = omega (arith, rest h)

  -- found among the first, or after them
  found_in_front : (xs ys : List V) → list_any p xs ≡ true → position_or_len p (xs ++ ys) ≡ position_or_len p xs
  found_in_front [] ys h = absurd (true≢false (sym h))
  found_in_front (x ∷ xs) ys h = by (p x) h (found_in_front xs ys) where
    by : (b : Bool) → (b || list_any p xs) ≡ true → (list_any p xs ≡ true → position_or_len p (xs ++ ys) ≡ position_or_len p xs)
        → cond (not b) (1 + position_or_len p (xs ++ ys)) 0 ≡ cond (not b) (1 + position_or_len p xs) 0
    by true h rest = refl
    by false h rest = ap (λ n. 1 + n) (rest h)

  found_behind : (xs ys : List V) → list_any p xs ≡ false → position_or_len p (xs ++ ys) ≡ length xs + position_or_len p ys
  found_behind [] ys h = omega arith
  found_behind (x ∷ xs) ys h = by (p x) h (found_behind xs ys) where
    by : (b : Bool) → (b || list_any p xs) ≡ false → (list_any p xs ≡ false → position_or_len p (xs ++ ys) ≡ length xs + position_or_len p ys)
        → cond (not b) (1 + position_or_len p (xs ++ ys)) 0 ≡ suc (length xs) + position_or_len p ys
    by true h rest = absurd (true≢false h)
    by false h rest = omega (arith, rest h)

  pub found_first : (xs ys : List V) (n : ℕ) → FindsPlace p xs (Some n) → FindsPlace p (xs ++ ys) (Some n)
  found_first xs ys n found = (
    list_any-append p xs ys ∙ ap (λ b. b || list_any p ys) found.0,
    found_in_front xs ys found.0 ∙ found.1,
    omega (arith, length-append xs ys, found.2),
  )

  pub found_later : (xs ys : List V) → list_any p xs ≡ false
      → (list_any p (xs ++ ys) ≡ list_any p ys) × (position_or_len p (xs ++ ys) ≡ length xs + position_or_len p ys)
  found_later xs ys none = (list_any-append p xs ys ∙ ap (λ b. b || list_any p ys) none, found_behind xs ys none)

-- ---- a name and those that were met
module _ (names : List Lent) (x : Lent) where
  abbrev pub IsInserted : List Lent → ℕ → Type 0
  IsInserted after n =
      (shown after ≡ insert_key bytes_eq (shown names) x.now)
      × (n ≡ position_or_len (bytes_eq x.now) (shown names))

  place_is : position_or_len (lent_eq x) names ≡ position_or_len (bytes_eq x.now) (shown names)
  place_is = place-shown (λ k. k.now) lent_eq bytes_eq (λ k l. refl) x names

  pub known_name : list_any (lent_eq x) names ≡ true → IsInserted names (position_or_len (lent_eq x) names)
  known_name known = (
    sym (ap (λ b. cond b (shown names) (shown names ++ x.now ∷ [])) (sym (any-shown (λ k. k.now) lent_eq bytes_eq (λ k l. refl) x names) ∙ known)),
    place_is,
  )

  pub new_name : list_any (lent_eq x) names ≡ false → IsInserted (names ++ x ∷ []) (length names)
  new_name none = (
    map-append (λ k. k.now) names (x ∷ [])
        ∙ sym (ap (λ b. cond b (shown names) (shown names ++ x.now ∷ [])) (sym (any-shown (λ k. k.now) lent_eq bytes_eq (λ k l. refl) x names) ∙ none)),
    sym (none_behind (lent_eq x) names none) ∙ place_is,
  )

-- a new name for which there is no room
pub name_refused : (names : List Lent) (x : Lent) (spare : ℕ) (n : GatheredNames)
    → record { items = shown names; spare = spare } ≡ n
    → list_any (lent_eq x) names ≡ false
    → spare ≤ 0
    → names_room n < length (insert_key bytes_eq n.items x.now)
name_refused names x spare n is none full =
    let longer : length (insert_key bytes_eq (shown names) x.now) ≡ length names + 1 =
    ap length (sym (new_name names x none).0) ∙ length-map (names ++ x ∷ []) (λ k. k.now) ∙ length-append names (x ∷ []) in
    subst (λ (m : GatheredNames). names_room m < length (insert_key bytes_eq m.items x.now)) is (omega (arith, longer, length-map names (λ k. k.now), full))

-- a name that isn't among the first few: the others are in a set
module _ (names : List Lent) (x : Lent) (few : ℕ) (long : few ≤ length names) (other : list_any (lent_eq x) (take few names) ≡ false) where
  parts : take few names ++ drop few names ≡ names
  parts = take-append-drop few names

  later : (list_any (lent_eq x) names ≡ list_any (lent_eq x) (drop few names))
      × (position_or_len (lent_eq x) names ≡ few + position_or_len (lent_eq x) (drop few names))
  later =
      let found = found_later (lent_eq x) (take few names) (drop few names) other in (
        ap (list_any (lent_eq x)) (sym parts) ∙ found.0,
        ap (position_or_len (lent_eq x)) (sym parts) ∙ found.1 ∙ ap (λ n. n + position_or_len (lent_eq x) (drop few names)) (length-take-le few names long),
      )

  pub later_place : few + position_or_len (lent_eq x) (drop few names) ≡ position_or_len (bytes_eq x.now) (shown names)
  later_place = sym later.1 ∙ place_is names x

  pub later_known : list_any (lent_eq x) (drop few names) ≡ true → shown names ≡ insert_key bytes_eq (shown names) x.now
  later_known known = (known_name names x (later.0 ∙ known)).0

  pub later_new : list_any (lent_eq x) (drop few names) ≡ false → shown (names ++ x ∷ []) ≡ insert_key bytes_eq (shown names) x.now
  later_new none = (new_name names x (later.0 ∙ none)).0

  pub later_none : list_any (lent_eq x) (drop few names) ≡ false → list_any (lent_eq x) names ≡ false
  later_none none = later.0 ∙ none

  pub later_behind : list_any (lent_eq x) (drop few names) ≡ false → length names ≡ position_or_len (bytes_eq x.now) (shown names)
  later_behind none = (new_name names x (later.0 ∙ none)).1
