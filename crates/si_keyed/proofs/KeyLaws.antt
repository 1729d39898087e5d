-- Laws of lists whose items go by keys.
use Rattle.std.proofs.Common.{◌≡◌, ◌⊎◌, inl, inr, ℕ, zero, suc, ◌+◌, ◌≤◌, List, [], ◌∷◌, ◌++◌, Some, length, slice_get, refl, sym, ap, ◌∙◌, subst, arith, length-append}
use Rattle.std.proofs.lemmas.Option.{same_Some, none-some}
use Rattle.si_defs.specs.Substitutions.{IsAmong}
use Rattle.si_defs.proofs.ListLaws.{among_back, among_parts, get_among, same_first, same_tail, not_empty}
use Rattle.si_keyed.specs.Keyed.{item_keys, HasKey, IsTakenOut}

-- what stands last is all that is taken away from there
split_last : {A : Type 0} (xs before after : List A) (x y : A) → (IsAmong xs y → ⊥) → xs ++ x ∷ [] ≡ before ++ y ∷ after → before ++ after ≡ xs
split_last [] [] after x y f h = sym (same_tail h)
split_last [] (b ∷ bs) after x y f h = absurd (not_empty bs y after (same_tail h))
split_last (z ∷ xs) [] after x y f h = absurd (f (inl (same_first h)))
split_last (z ∷ xs) (b ∷ bs) after x y f h =
    let rest = split_last xs bs after x y (λ k. f (inr k)) (same_tail h) in
    λ i. sym (same_first h) i ∷ rest i

module _ {T : Type 0} where
  -- ---- items by keys
  pub key_at : (items : List (ℕ × T)) (position : ℕ) (e : ℕ × T) → slice_get items position ≡ Some e → slice_get (item_keys items) position ≡ Some e.0
  key_at [] position e h = absurd (none-some _ h)
  key_at (x ∷ items) zero e h = ap (λ y. Some y.0) (same_Some _ _ h)
  key_at (x ∷ items) (suc position) e h = key_at items position e h

  pub key_among : (items : List (ℕ × T)) (e : ℕ × T) → IsAmong items e → HasKey items e.0
  key_among [] e h = h
  key_among (x ∷ items) e (inl h) = inl (ap (λ y. y.0) h)
  key_among (x ∷ items) e (inr h) = inr (key_among items e h)

  pub item_of : (items : List (ℕ × T)) (key : ℕ) → HasKey items key → (c : T) × IsAmong items (key, c)
  item_of [] key h = absurd h
  item_of (x ∷ items) key (inl e) = (x.1, inl (λ i. (e i, x.1)))
  item_of (x ∷ items) key (inr h) = let found = item_of items key h in (found.0, inr found.1)

  pub key_taken : (items : List (ℕ × T)) (key : ℕ) (c : T) (rest : List (ℕ × T)) → IsTakenOut items key c rest → IsAmong items (key, c)
  key_taken items key c rest out = subst (λ l. IsAmong l (key, c)) (sym out.whole) (among_back out.before ((key, c) ∷ out.after) (key, c) (inl refl))

  -- where the key is fresh, the item that it leads to is the one that was pushed
  pub pushed_item : (items : List (ℕ × T)) (key : ℕ) (c d : T) → (HasKey items key → ⊥) → IsAmong (items ++ (key, c) ∷ []) (key, d) → d ≡ c
  pushed_item items key c d fresh h = by (among_parts items ((key, c) ∷ []) (key, d) h) where
    by : IsAmong items (key, d) ⊎ IsAmong {V = ℕ × T} ((key, c) ∷ []) (key, d) → d ≡ c
    by (inl k) = absurd (fresh (key_among items (key, d) k))
    by (inr (inl e)) = ap (λ p. p.1) (sym e)
    by (inr (inr k)) = absurd k

  pub pushed_key : (items : List (ℕ × T)) (key : ℕ) (c : T) → HasKey (items ++ (key, c) ∷ []) key
  pushed_key items key c = key_among (items ++ (key, c) ∷ []) (key, c) (among_back items ((key, c) ∷ []) (key, c) (inl refl))

  pub taken_back : (items : List (ℕ × T)) (key : ℕ) (c d : T) (new : List (ℕ × T)) → (HasKey items key → ⊥) → IsTakenOut (items ++ (key, c) ∷ []) key d new
      → new ≡ items
  taken_back items key c d new fresh out =
      out.rest ∙ split_last items out.before out.after (key, c) (key, d) (λ h. fresh (key_among items (key, d) h)) out.whole

  -- the key at the last position stands after each item that isn't the last
  pub last_behind : (before : List (ℕ × T)) (x : ℕ × T) (after : List (ℕ × T)) (n key : ℕ) → slice_get (item_keys (before ++ x ∷ after)) n ≡ Some key
      → n + 1 ≡ length (before ++ x ∷ after) → 1 ≤ length after → HasKey after key
  last_behind [] x after zero key h last some = absurd (omega (arith, last, some))
  last_behind [] x after (suc n) key h last some = get_among (item_keys after) n key h
  last_behind (b ∷ bs) x after zero key h last some = absurd (omega (arith, last, length-append bs (x ∷ after)))
  last_behind (b ∷ bs) x after (suc n) key h last some = last_behind bs x after n key h (omega (arith, last)) some
