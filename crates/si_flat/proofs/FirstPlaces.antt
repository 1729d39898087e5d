-- Members numbered by their places among the first occurrences.
use Rattle.std.proofs.Common.{◌≡◌, inl, inr, ℕ, zero, suc, ◌+◌, Bool, true, false, cond, not, ◌==◌, List, [], ◌∷◌, ◌++◌, length, map, refl, ap, sym, ◌∙◌, arith, true≢false, one-add, Decides}
use Rattle.std.specs.Prelude.{filter, bytes_eq}
use Rattle.std.proofs.lemmas.Bool.{eqb-true, eq-eqb, not-true}
use Rattle.std.proofs.lemmas.List.{map-append}
use Rattle.std.proofs.lemmas.Slice.Eq.{bytes_eq-Decides}
use Rattle.si_defs.specs.Bytes.{Bytes}
use Rattle.si_defs.specs.Symbols.{Symbol}
use Rattle.si_defs.specs.Substitutions.{IsAmong}
use Rattle.si_defs.specs.Terms as terms
use Rattle.si_defs.specs.Terms.{firsts}
use Rattle.si_defs.specs.Clauses as clauses
use Rattle.si_defs.proofs.SymbolLaws.{text_is}
use Rattle.si_defs.proofs.BoolLaws.{agreed}
use Rattle.si_flat.specs.Cells.{Variable, same_variable}
use Rattle.si_flat.specs.Numbered.{place_in, numbered, all_numbered}
use Rattle.si_flat.specs.Flattened.{counted_from, IsNumberedBy}

module _ {V : Type 0} where
  -- members of a filtered list
  pub among_filter : (p : V → Bool) (xs : List V) (y : V) → IsAmong (filter p xs) y → IsAmong xs y × (p y ≡ true)
  among_filter p [] y h = absurd h
  among_filter p (x ∷ xs) y h = by (p x) refl h (among_filter p xs y) where
    by : (b : Bool) → p x ≡ b → IsAmong (cond b (x ∷ filter p xs) (filter p xs)) y
        → (IsAmong (filter p xs) y → IsAmong xs y × (p y ≡ true))
        → IsAmong (x ∷ xs) y × (p y ≡ true)
    by true e (inl same) later = (inl same, ap p (sym same) ∙ e)
    by true e (inr h) later = let found = later h in (inr found.0, found.1)
    by false e h later = let found = later h in (inr found.0, found.1)

  pub filter_among : (p : V → Bool) (xs : List V) (y : V) → IsAmong xs y → p y ≡ true → IsAmong (filter p xs) y
  filter_among p [] y h t = absurd h
  filter_among p (x ∷ xs) y (inl same) t = rw (ap p same ∙ t) (inl same)
  filter_among p (x ∷ xs) y (inr h) t = by (p x) (filter_among p xs y h t) where
    by : (b : Bool) → IsAmong (filter p xs) y → IsAmong (cond b (x ∷ filter p xs) (filter p xs)) y
    by true g = inr g
    by false g = g

  -- what agrees on the members
  map_among : {W : Type 0} (f g : V → W) (xs : List V) → ((y : V) → IsAmong xs y → f y ≡ g y) → map f xs ≡ map g xs
  map_among f g [] h = refl
  map_among f g (x ∷ xs) h = λ i. h x (inl refl) i ∷ map_among f g xs (λ y m. h y (inr m)) i

  filter_agrees : (p q : V → Bool) (xs : List V) → ((y : V) → IsAmong xs y → p y ≡ q y) → filter p xs ≡ filter q xs
  filter_agrees p q [] h = refl
  filter_agrees p q (x ∷ xs) h =
      let rest = filter_agrees p q xs (λ y m. h y (inr m)) in
      λ i. cond (h x (inl refl) i) (x ∷ rest i) (rest i)

  filter_map : {W : Type 0} (f : V → W) (p : W → Bool) (xs : List V) → filter p (map f xs) ≡ map f (filter (λ x. p (f x)) xs)
  filter_map f p [] = refl
  filter_map f p (x ∷ xs) = by (p (f x)) (filter_map f p xs) where
    by : (b : Bool) → filter p (map f xs) ≡ map f (filter (λ y. p (f y)) xs)
        → cond b (f x ∷ filter p (map f xs)) (filter p (map f xs)) ≡ map f (cond b (x ∷ filter (λ y. p (f y)) xs) (filter (λ y. p (f y)) xs))
    by true h = ap (λ l. f x ∷ l) h
    by false h = h

-- the first occurrences are the members
module _ {V : Type 0} (same : V → V → Bool) where
  pub among_firsts : ((x y : V) → same x y ≡ true → x ≡ y) → (xs : List V) (y : V) → IsAmong xs y → IsAmong (firsts same xs) y
  among_firsts tells [] y h = absurd h
  among_firsts tells (x ∷ xs) y (inl e) = inl e
  among_firsts tells (x ∷ xs) y (inr h) = by (same x y) refl (among_firsts tells xs y h) where
    by : (b : Bool) → same x y ≡ b → IsAmong (firsts same xs) y → IsAmong (firsts same (x ∷ xs)) y
    by true e g = inl (tells x y e)
    by false e g = inr (filter_among (λ z. not (same x z)) (firsts same xs) y g (ap not e))

  pub firsts_among : (xs : List V) (y : V) → IsAmong (firsts same xs) y → IsAmong xs y
  firsts_among [] y h = h
  firsts_among (x ∷ xs) y (inl e) = inl e
  firsts_among (x ∷ xs) y (inr h) = inr (firsts_among xs y (among_filter (λ z. not (same x z)) (firsts same xs) y h).0)

module _ {V : Type 0} (same : V → V → Bool) (decides : (x y : V) → Decides (same x y) (x ≡ y)) where
  -- none of them comes again
  abbrev pub NoneAgain : List V → Type 0
  NoneAgain [] = Unit {0}
  NoneAgain (x ∷ xs) = ((y : V) → IsAmong xs y → same x y ≡ false) × NoneAgain xs

  filter_apart : (p : V → Bool) (xs : List V) → NoneAgain xs → NoneAgain (filter p xs)
  filter_apart p [] apart = tt
  filter_apart p (x ∷ xs) apart = by (p x) (filter_apart p xs apart.1) where
    by : (b : Bool) → NoneAgain (filter p xs) → NoneAgain (cond b (x ∷ filter p xs) (filter p xs))
    by true g = (λ y m. apart.0 y (among_filter p xs y m).0, g)
    by false g = g

  pub firsts_apart : (xs : List V) → NoneAgain (firsts same xs)
  firsts_apart [] = tt
  firsts_apart (x ∷ xs) = (
    λ y m. not-true (same x y) (among_filter (λ z. not (same x z)) (firsts same xs) y m).1,
    filter_apart (λ z. not (same x z)) (firsts same xs) (firsts_apart xs),
  )

  -- members at one place are equal
  pub place_one : (xs : List V) (x y : V) → IsAmong xs x → IsAmong xs y → place_in same xs x ≡ place_in same xs y → x ≡ y
  place_one [] x y mx my e = absurd mx
  place_one (z ∷ xs) x y mx my e = by (same z x) (same z y) refl refl e mx my (place_one xs x y) where
    of_rest : (w : V) → same z w ≡ false → IsAmong (z ∷ xs) w → IsAmong xs w
    of_rest w n (inl s) = absurd (true≢false (sym ((decides z w).1 s) ∙ n))
    of_rest w n (inr m) = m

    by : (b c : Bool) → same z x ≡ b → same z y ≡ c
        → cond b 0 (1 + place_in same xs x) ≡ cond c 0 (1 + place_in same xs y)
        → IsAmong (z ∷ xs) x → IsAmong (z ∷ xs) y
        → (IsAmong xs x → IsAmong xs y → place_in same xs x ≡ place_in same xs y → x ≡ y)
        → x ≡ y
    by true true ex ey e mx my later = sym ((decides z x).0 ex) ∙ (decides z y).0 ey
    by true false ex ey e mx my later = absurd (omega (arith, e))
    by false true ex ey e mx my later = absurd (omega (arith, e))
    by false false ex ey e mx my later = later (of_rest x ex mx) (of_rest y ey my) (omega (arith, e))

  -- the places of a list's own members
  places_counted : (variable : ℕ → Variable) (k : ℕ) (xs : List V) → NoneAgain xs → map (λ x. variable (k + place_in same xs x)) xs ≡ counted_from variable k (length xs)
  places_counted variable k [] apart = refl
  places_counted variable k (z ∷ xs) apart =
      let here : k + place_in same (z ∷ xs) z ≡ k = ap (λ b. k + cond b 0 (1 + place_in same xs z)) ((decides z z).1 refl) ∙ omega arith in
      let one : (y : V) → IsAmong xs y → k + place_in same (z ∷ xs) y ≡ suc k + place_in same xs y =
      λ y m. ap (λ b. k + cond b 0 (1 + place_in same xs y)) (apart.0 y m) ∙ omega arith in
      let rest =
      map_among (λ x. variable (k + place_in same (z ∷ xs) x)) (λ x. variable (suc k + place_in same xs x)) xs (λ y m. ap variable (one y m))
      ∙ places_counted variable (suc k) xs apart.1 in
      λ i. variable (here i) ∷ rest i

  -- first occurrences under a map that tells members apart
  module _ {W : Type 0} (other : W → W → Bool) (f : V → W) where
    firsts_map : (xs : List V) → ((x y : V) → IsAmong xs x → IsAmong xs y → other (f x) (f y) ≡ same x y) → firsts other (map f xs) ≡ map f (firsts same xs)
    firsts_map [] h = refl
    firsts_map (x ∷ xs) h =
        ap (λ l. f x ∷ filter (λ w. not (other (f x) w)) l) (firsts_map xs (λ y z my mz. h y z (inr my) (inr mz)))
        ∙ ap (λ l. f x ∷ l) (
        filter_map f (λ w. not (other (f x) w)) (firsts same xs)
        ∙ ap (map f) (filter_agrees (λ y. not (other (f x) (f y))) (λ y. not (same x y)) (firsts same xs) (λ y m. ap not (h x y (inl refl) (inr (firsts_among same xs y m)))))
        )

-- the text at a place
abbrev pub text_at : List Bytes → ℕ → Bytes
text_at [] n = []
text_at (x ∷ xs) zero = x
text_at (x ∷ xs) (suc n) = text_at xs n

pub at_place : (xs : List Bytes) (x : Bytes) → IsAmong xs x → text_at xs (place_in bytes_eq xs x) ≡ x
at_place [] x a = absurd a
at_place (y ∷ xs) x a = by (bytes_eq y x) refl (at_place xs x)
  where
    by : (b : Bool) → bytes_eq y x ≡ b → (IsAmong xs x → text_at xs (place_in bytes_eq xs x) ≡ x) → text_at (y ∷ xs) (cond b 0 (1 + place_in bytes_eq xs x)) ≡ x
    by true e rest = text_is y x e
    by false e rest =
        elim a [
          | inl same ↦ absurd (true≢false (sym ((bytes_eq-Decides y x).1 same) ∙ e))
          | inr b ↦ ap (text_at (y ∷ xs)) (one-add (place_in bytes_eq xs x)) ∙ rest b
        ]

-- ---- the variables of a numbered term
mutual
  variables-numbered : {V : Type 0} (n : Symbol → ℕ) (v : V → Variable) (t : terms.Term Symbol V) → terms.variables (numbered n v t) ≡ map v (terms.variables t)
  variables-numbered n v (terms.var x) = refl
  variables-numbered n v (terms.app s ts) = variables-all_numbered n v ts

  variables-all_numbered : {V : Type 0} (n : Symbol → ℕ) (v : V → Variable) (ts : terms.Terms Symbol V) → terms.variables_of_all (all_numbered n v ts) ≡ map v (terms.variables_of_all ts)
  variables-all_numbered n v terms.none = refl
  variables-all_numbered n v (terms.more t ts) =
      (λ i. variables-numbered n v t i ++ variables-all_numbered n v ts i) ∙ sym (map-append v (terms.variables t) (terms.variables_of_all ts))

pub numbered_by : (n : Symbol → ℕ) (variable : ℕ → Variable)
    → ((i j : ℕ) → same_variable (variable i) (variable j) ≡ (i == j))
    → (t : clauses.Term)
    → IsNumberedBy variable (numbered n (λ x. variable (place_in bytes_eq (firsts bytes_eq (terms.variables t)) x)) t)
numbered_by n variable tells t =
    let vs = terms.variables t in
    let xs = firsts bytes_eq vs in
    let v : Bytes → Variable = λ x. variable (place_in bytes_eq xs x) in
    let agrees : (x y : Bytes) → IsAmong vs x → IsAmong vs y → same_variable (v x) (v y) ≡ bytes_eq x y =
    λ x y mx my. tells (place_in bytes_eq xs x) (place_in bytes_eq xs y) ∙ one_place vs x y mx my in (
      length xs,
      ap (firsts same_variable) (variables-numbered n v t)
          ∙ firsts_map bytes_eq bytes_eq-Decides same_variable v vs agrees
          ∙ map_among v (λ x. variable (0 + place_in bytes_eq xs x)) xs (λ y m. ap variable (omega arith))
          ∙ places_counted bytes_eq bytes_eq-Decides variable 0 xs (firsts_apart bytes_eq bytes_eq-Decides vs),
    ) where
      one_place : (vs : List Bytes) (x y : Bytes) → IsAmong vs x → IsAmong vs y → (place_in bytes_eq (firsts bytes_eq vs) x == place_in bytes_eq (firsts bytes_eq vs) y) ≡ bytes_eq x y
      one_place vs x y mx my =
          let xs = firsts bytes_eq vs in
          agreed
          (place_in bytes_eq xs x == place_in bytes_eq xs y)
          (bytes_eq x y)
          (λ e. (bytes_eq-Decides x y).1 (place_one bytes_eq bytes_eq-Decides xs x y (among_firsts bytes_eq text_is vs x mx) (among_firsts bytes_eq text_is vs y my) (eqb-true _ _ e)))
          (λ e. eq-eqb _ _ (ap (place_in bytes_eq xs) ((bytes_eq-Decides x y).0 e)))
