-- Members inserted one after the other, each once.
use Rattle.std.proofs.Common.{◌≡◌, ◌+◌, ◌≤◌, Bool, true, false, cond, not, ◌&&◌, ◌||◌, List, [], ◌∷◌, ◌++◌, length, map, refl, ap, sym, ◌∙◌, arith, append_assoc, append-nil, length-append, subst, Decides}
use Rattle.std.specs.Prelude.{filter, bytes_eq}
use Rattle.std.proofs.lemmas.List.{map-append}
use Rattle.std.proofs.lemmas.List.Sums.{fold-append}
use Rattle.std.specs.List.{list_any, position_or_len}
use denote.Bor.{Bor}
use Rattle.indexmap.specs.IndexSet.{insert_key, insert_all}
use Rattle.std.proofs.lemmas.List.Folds.{list_any-append}
use Rattle.std.proofs.lemmas.List.Elements.{filter_agree}
use Rattle.std.proofs.Math.Bool.{or-true}
use Rattle.si_defs.specs.Substitutions.{Grows}
use Rattle.si_defs.specs.Bytes.{Bytes}
use Rattle.si_defs.specs.Terms.{firsts}
use Rattle.si_defs.proofs.BoolLaws.{agreed, not_told, neither}

filter_twice : {A : Type 0} (p q : A → Bool) (xs : List A) → filter p (filter q xs) ≡ filter (λ x. q x && p x) xs
filter_twice p q [] = refl
filter_twice p q (x ∷ xs) = by (q x) (filter_twice p q xs) where
  by : (b : Bool) → filter p (filter q xs) ≡ filter (λ y. q y && p y) xs
      → filter p (cond b (x ∷ filter q xs) (filter q xs)) ≡ cond (b && p x) (x ∷ filter (λ y. q y && p y) xs) (filter (λ y. q y && p y) xs)
  by true h = ap (λ l. cond (p x) (x ∷ l) l) h
  by false h = h

all_pass : {A : Type 0} (p : A → Bool) → ((x : A) → p x ≡ true) → (xs : List A) → filter p xs ≡ xs
all_pass p h [] = refl
all_pass p h (x ∷ xs) = rw (h x) (ap (λ l. x ∷ l) (all_pass p h xs))

module _ {V : Type 0} (same : V → V → Bool) where
  -- one row after the other
  pub inserted-append : (known xs ys : List V) → insert_all same known (xs ++ ys) ≡ insert_all same (insert_all same known xs) ys
  inserted-append known xs ys = fold-append (insert_key same) known xs ys

  -- what is inserted comes after what was there
  key_extends : (known : List V) (x : V) → Grows known (insert_key same known x)
  key_extends known x = by (list_any (same x) known) where
    by : (b : Bool) → Grows known (cond b known (known ++ x ∷ []))
    by true = ([], sym (append-nil known))
    by false = (x ∷ [], refl)

  pub inserted_extends : (known xs : List V) → Grows known (insert_all same known xs)
  inserted_extends known [] = ([], sym (append-nil known))
  inserted_extends known (x ∷ xs) =
      let one = key_extends known x in
      let rest = inserted_extends (insert_key same known x) xs in
      (one.0 ++ rest.0, rest.1 ∙ ap (λ l. l ++ rest.0) one.1 ∙ append_assoc known one.0 rest.0)

  -- each adds one at most
  key_length : (known : List V) (x : V) → length (insert_key same known x) ≤ length known + 1
  key_length known x = by (list_any (same x) known) where
    by : (b : Bool) → length (cond b known (known ++ x ∷ [])) ≤ length known + 1
    by true = omega arith
    by false = omega (arith, length-append known (x ∷ []))

  pub inserted_length : (known xs : List V) → length (insert_all same known xs) ≤ length known + length xs
  inserted_length known [] = omega arith
  inserted_length known (x ∷ xs) = omega (arith, key_length known x, inserted_length (insert_key same known x) xs)

-- ---- where `same` tells members apart
module _ {V : Type 0} (same : V → V → Bool) (decides : (x y : V) → Decides (same x y) (x ≡ y)) where
  pub swapped : (x y : V) → same x y ≡ same y x
  swapped x y = agreed (same x y) (same y x) (λ e. (decides y x).1 (sym ((decides x y).0 e))) (λ e. (decides x y).1 (sym ((decides y x).0 e)))

  abbrev unknown : List V → V → Bool
  unknown known y = not (list_any (same y) known)

  known_eq : (known : List V) (x y : V) → list_any (same x) known ≡ true → (not (same x y) && unknown known y) ≡ unknown known y
  known_eq known x y h =
      not_told (same x y) (list_any (same y) known) (λ e. subst (λ z. list_any (same z) known ≡ true) ((decides x y).0 e) h)

  new_eq : (known : List V) (x y : V) → unknown (known ++ x ∷ []) y ≡ (not (same x y) && unknown known y)
  new_eq known x y = ap not (list_any-append (same y) known (x ∷ []) ∙ ap (λ b. list_any (same y) known || (b || false)) (swapped y x)) ∙ neither (same x y) (list_any (same y) known)

  -- what is inserted in addition are the first occurrences of what isn't known
  inserted-is : (known xs : List V) → insert_all same known xs ≡ known ++ filter (unknown known) (firsts same xs)
  inserted-is known [] = sym (append-nil known)
  inserted-is known (x ∷ xs) = by (inserted-is known xs) (inserted-is (known ++ x ∷ []) xs) (list_any (same x) known) refl where
    by : insert_all same known xs ≡ known ++ filter (unknown known) (firsts same xs)
        → insert_all same (known ++ x ∷ []) xs ≡ (known ++ x ∷ []) ++ filter (unknown (known ++ x ∷ [])) (firsts same xs)
        → (b : Bool) → list_any (same x) known ≡ b
        → insert_all same (cond b known (known ++ x ∷ [])) xs
        ≡ known ++ cond (not b) (x ∷ filter (unknown known) (filter (λ y. not (same x y)) (firsts same xs))) (filter (unknown known) (filter (λ y. not (same x y)) (firsts same xs)))
    by old new true e =
        old
        ∙ ap (λ l. known ++ l) (sym (filter_twice (unknown known) (λ y. not (same x y)) (firsts same xs)
        ∙ filter_agree _ _ (λ y. known_eq known x y e) (firsts same xs)))
    by old new false e =
        new ∙ append_assoc known (x ∷ []) _
        ∙ ap (λ l. known ++ x ∷ l) (filter_agree _ _ (λ y. new_eq known x y) (firsts same xs)
        ∙ sym (filter_twice (unknown known) (λ y. not (same x y)) (firsts same xs)))

  -- inserted from the start, they are the first occurrences
  pub inserted-firsts : (xs : List V) → insert_all same [] xs ≡ firsts same xs
  inserted-firsts xs = inserted-is [] xs ∙ all_pass (unknown []) (λ x. refl) (firsts same xs)

  -- and it is there
  pub inserted-known : (known more : List V) (x : V) → list_any (λ y. same y x) (insert_key same known x ++ more) ≡ true
  inserted-known known more x = by (list_any (same x) known) refl where
    any_swapped : (xs : List V) → list_any (same x) xs ≡ list_any (λ y. same y x) xs
    any_swapped [] = refl
    any_swapped (y ∷ xs) = λ i. swapped x y i || any_swapped xs i

    by : (b : Bool) → list_any (same x) known ≡ b → list_any (λ y. same y x) (cond b known (known ++ x ∷ []) ++ more) ≡ true
    by true e = list_any-append (λ y. same y x) known more ∙ ap (λ b. b || list_any (λ y. same y x) more) (sym (any_swapped known) ∙ e)
    by false e =
        ap (list_any (λ y. same y x)) (append_assoc known (x ∷ []) more)
        ∙ list_any-append (λ y. same y x) known (x ∷ more)
        ∙ ap (λ b. list_any (λ y. same y x) known || (b || list_any (λ y. same y x) more)) ((decides x x).1 refl)
        ∙ or-true (list_any (λ y. same y x) known)

-- ---- keys that stand for members
module _ {K V : Type 0} (f : K → V) (eq : K → K → Bool) (same : V → V → Bool) (goes : (k l : K) → eq k l ≡ same (f k) (f l)) where
  pub any-shown : (k : K) (ks : List K) → list_any (eq k) ks ≡ list_any (same (f k)) (map f ks)
  any-shown k [] = refl
  any-shown k (l ∷ ks) = λ i. goes k l i || any-shown k ks i

  pub place-shown : (k : K) (ks : List K) → position_or_len (eq k) ks ≡ position_or_len (same (f k)) (map f ks)
  place-shown k [] = refl
  place-shown k (l ∷ ks) = λ i. cond (not (goes k l i)) (1 + place-shown k ks i) 0

  pub key-shown : (ks : List K) (k : K) → map f (insert_key eq ks k) ≡ insert_key same (map f ks) (f k)
  key-shown ks k = ap (λ b. map f (cond b ks (ks ++ k ∷ []))) (any-shown k ks) ∙ by (list_any (same (f k)) (map f ks)) where
    by : (b : Bool) → map f (cond b ks (ks ++ k ∷ [])) ≡ cond b (map f ks) (map f ks ++ f k ∷ [])
    by true = refl
    by false = map-append f ks (k ∷ [])

-- ---- texts that are borrowed
abbrev pub Lent : Type 0
Lent = Bor Bytes

abbrev pub lent_eq : Lent → Lent → Bool
lent_eq x y = bytes_eq x.now y.now

abbrev pub shown : List Lent → List Bytes
shown ks = map (λ k. k.now) ks
