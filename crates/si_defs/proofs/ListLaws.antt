-- Elements of lists: what holds of each of them, members, places, and equal lists.
use Rattle.std.proofs.Common.{◌≡◌, ◌≢◌, ◌⊎◌, inl, inr, ℕ, zero, suc, ◌<◌, List, [], ◌∷◌, ◌++◌, length, take, drop, set, get_or, slice_get, Some, refl, ap, subst, arith}
use Rattle.std.specs.List.{AllByRecursion}
use Rattle.std.proofs.lemmas.Option.{same_Some}
use Rattle.si_defs.specs.Substitutions.{IsAmong}

module _ {X : Type 0} where
  -- ---- what holds of each element
  pub all_weaker : (P R : X → Type 0) (xs : List X) → ((x : X) → P x → R x) → AllByRecursion P xs → AllByRecursion R xs
  all_weaker P R [] give p = tt
  all_weaker P R (x ∷ xs) give p = (give x p.0, all_weaker P R xs give p.1)

  pub all_with : (P Q R : X → Type 0) (xs : List X) → ((x : X) → P x → Q x → R x) → AllByRecursion P xs → AllByRecursion Q xs → AllByRecursion R xs
  all_with P Q R [] give p q = tt
  all_with P Q R (x ∷ xs) give p q = (give x p.0 q.0, all_with P Q R xs give p.1 q.1)

  pub all_append : (P : X → Type 0) (xs ys : List X) → AllByRecursion P xs → AllByRecursion P ys → AllByRecursion P (xs ++ ys)
  all_append P [] ys p q = q
  all_append P (x ∷ xs) ys p q = (p.0, all_append P xs ys p.1 q)

  pub all_front : (P : X → Type 0) (xs ys : List X) → AllByRecursion P (xs ++ ys) → AllByRecursion P xs
  all_front P [] ys p = tt
  all_front P (x ∷ xs) ys p = (p.0, all_front P xs ys p.1)

  pub all_back : (P : X → Type 0) (xs ys : List X) → AllByRecursion P (xs ++ ys) → AllByRecursion P ys
  all_back P [] ys p = p
  all_back P (x ∷ xs) ys p = all_back P xs ys p.1

  pub all_take : (P : X → Type 0) (n : ℕ) (xs : List X) → AllByRecursion P xs → AllByRecursion P (take n xs)
  all_take P n [] p = elim n as (λ k. AllByRecursion P (take k [])) [ zero ↦ tt | suc k ↦ tt ]
  all_take P zero (x ∷ xs) p = tt
  all_take P (suc n) (x ∷ xs) p = (p.0, all_take P n xs p.1)

  pub all_drop : (P : X → Type 0) (n : ℕ) (xs : List X) → AllByRecursion P xs → AllByRecursion P (drop n xs)
  all_drop P n [] p = elim n as (λ k. AllByRecursion P (drop k [])) [ zero ↦ tt | suc k ↦ tt ]
  all_drop P zero (x ∷ xs) p = p
  all_drop P (suc n) (x ∷ xs) p = all_drop P n xs p.1

  pub all_at : (P : X → Type 0) (xs : List X) (x : X) → AllByRecursion P xs → IsAmong xs x → P x
  all_at P [] x h a = absurd a
  all_at P (y ∷ xs) x h (inl e) = subst P e h.0
  all_at P (y ∷ xs) x h (inr a) = all_at P xs x h.1 a

  pub all_from : (P : X → Type 0) (xs : List X) → ((x : X) → IsAmong xs x → P x) → AllByRecursion P xs
  all_from P [] give = tt
  all_from P (x ∷ xs) give = (give x (inl refl), all_from P xs (λ y a. give y (inr a)))

  pub all_got : (P : X → Type 0) (xs : List X) (n : ℕ) (x : X) → AllByRecursion P xs → slice_get xs n ≡ Some x → P x
  all_got P [] n x h e = cc
  all_got P (y ∷ xs) zero x h e = subst P (same_Some y x e) h.0
  all_got P (y ∷ xs) (suc n) x h e = all_got P xs n x h.1 e

  pub all_get : (P : X → Type 0) (xs : List X) (n : ℕ) (d : X) → AllByRecursion P xs → n < length xs → P (get_or xs n d)
  all_get P [] n d h less = absurd (omega (arith, less))
  all_get P (x ∷ xs) zero d h less = h.0
  all_get P (x ∷ xs) (suc n) d h less = all_get P xs n d h.1 (omega (arith, less))

  -- ---- members
  pub among_front : (xs ys : List X) (x : X) → IsAmong xs x → IsAmong (xs ++ ys) x
  among_front [] ys x a = absurd a
  among_front (y ∷ xs) ys x (inl e) = inl e
  among_front (y ∷ xs) ys x (inr a) = inr (among_front xs ys x a)

  pub among_back : (xs ys : List X) (x : X) → IsAmong ys x → IsAmong (xs ++ ys) x
  among_back [] ys x a = a
  among_back (y ∷ xs) ys x a = inr (among_back xs ys x a)

  pub among_parts : (xs ys : List X) (x : X) → IsAmong (xs ++ ys) x → IsAmong xs x ⊎ IsAmong ys x
  among_parts [] ys x a = inr a
  among_parts (y ∷ xs) ys x (inl e) = inl (inl e)
  among_parts (y ∷ xs) ys x (inr a) = elim (among_parts xs ys x a) [ inl b ↦ inl (inr b) | inr b ↦ inr b ]

  -- a member of a list with one more is an old one, or the new one
  pub among_either : (xs : List X) (y x : X) → IsAmong (xs ++ y ∷ []) x → IsAmong xs x ⊎ (y ≡ x)
  among_either xs y x a = elim (among_parts xs (y ∷ []) x a) [ inl b ↦ inl b | inr b ↦ elim b [ inl e ↦ inr e | inr n ↦ absurd n ] ]

  -- ---- places
  pub get_some : (xs : List X) (n : ℕ) → n < length xs → (x : X) × (slice_get xs n ≡ Some x)
  get_some [] n less = absurd (omega (arith, less))
  get_some (y ∷ xs) zero less = (y, refl)
  get_some (y ∷ xs) (suc n) less = get_some xs n (omega (arith, less))

  pub get_front : (xs ys : List X) (n : ℕ) (x : X) → slice_get xs n ≡ Some x → slice_get (xs ++ ys) n ≡ Some x
  get_front [] ys n x e = cc
  get_front (y ∷ xs) ys zero x e = e
  get_front (y ∷ xs) ys (suc n) x e = get_front xs ys n x e

  pub get_here : (xs : List X) (y : X) (ys : List X) → slice_get (xs ++ y ∷ ys) (length xs) ≡ Some y
  get_here [] y ys = refl
  get_here (x ∷ xs) y ys = get_here xs y ys

  -- an element of a list with one more is an old one, or the new one
  pub get_either : (xs : List X) (y : X) (n : ℕ) (x : X) → slice_get (xs ++ y ∷ []) n ≡ Some x → (slice_get xs n ≡ Some x) ⊎ ((n ≡ length xs) × (x ≡ y))
  get_either [] y zero x e = inr (refl, cc)
  get_either [] y (suc n) x e = cc
  get_either (z ∷ xs) y zero x e = inl e
  get_either (z ∷ xs) y (suc n) x e = elim (get_either xs y n x e) [ inl k ↦ inl k | inr k ↦ inr (ap suc k.0, k.1) ]

  pub get_among : (xs : List X) (n : ℕ) (x : X) → slice_get xs n ≡ Some x → IsAmong xs x
  get_among [] n x e = cc
  get_among (y ∷ xs) zero x e = inl (same_Some y x e)
  get_among (y ∷ xs) (suc n) x e = inr (get_among xs n x e)

  pub set_same : (xs : List X) (n : ℕ) (x : X) → n < length xs → slice_get (set xs n x) n ≡ Some x
  set_same [] n x less = absurd (omega (arith, less))
  set_same (y ∷ xs) zero x less = refl
  set_same (y ∷ xs) (suc n) x less = set_same xs n x (omega (arith, less))

  pub set_other : (xs : List X) (m n : ℕ) (x : X) → n ≢ m → slice_get (set xs m x) n ≡ slice_get xs n
  set_other [] m n x apart = refl
  set_other (y ∷ xs) zero zero x apart = absurd (apart refl)
  set_other (y ∷ xs) zero (suc n) x apart = refl
  set_other (y ∷ xs) (suc m) zero x apart = refl
  set_other (y ∷ xs) (suc m) (suc n) x apart = set_other xs m n x (λ e. apart (ap suc e))

-- ---- equal lists
pub same_first : {X : Type 0} {x y : X} {xs ys : List X} → x ∷ xs ≡ y ∷ ys → x ≡ y
same_first e = cc

pub same_tail : {X : Type 0} {x y : X} {xs ys : List X} → x ∷ xs ≡ y ∷ ys → xs ≡ ys
same_tail e = cc

pub not_empty : {X : Type 0} (xs : List X) (y : X) (ys : List X) → [] ≡ xs ++ y ∷ ys → ⊥
not_empty [] y ys e = cc
not_empty (x ∷ xs) y ys e = cc
