-- Variables numbered in the order of their first occurrence, read from left to right.
use Rattle.std.proofs.Common.{◌≡◌, ℕ, ◌+◌, ◌<◌, ◌⊎◌, inl, inr, Bool, true, false, cond, not, List, [], ◌∷◌, suc, zero, refl, sym, ◌∙◌, ap, subst, arith}
use Rattle.std.specs.Prelude.{filter, ◌||◌}
use Rattle.std.proofs.lemmas.Bool.{cases_Bool}
use Rattle.si_defs.specs.Terms.{firsts}
use Rattle.si_flat.specs.Cells.{Variable, same_variable}
use Rattle.si_flat.specs.declared.Owner.{Owner}
use Rattle.si_flat.specs.Flattening.{owners_variable}
use Rattle.si_form.specs.Answers.{owners_variables}
use Rattle.si_flat.proofs.VariableLaws.{variable_is}

-- each variable is one of the first n, or the next one; m is how many there are at the end
abbrev pub NumberedTo : Owner → ℕ → List Variable → ℕ → Type 0
NumberedTo owner n [] m = n ≡ m
NumberedTo owner n (x ∷ xs) m =
    ((k : ℕ) × (k < n) × (x ≡ owners_variable owner k) × NumberedTo owner n xs m)
    ⊎ ((x ≡ owners_variable owner n) × NumberedTo owner (suc n) xs m)

-- ---- filters
filter_filter : {X : Type 0} (p q r : X → Bool) (xs : List X) → ((x : X) → cond (q x) (p x) false ≡ r x) → filter p (filter q xs) ≡ filter r xs
filter_filter p q r [] h = refl
filter_filter p q r (x ∷ xs) h = by (q x) (h x) (filter_filter p q r xs h)
  where
    by : (b : Bool) → cond b (p x) false ≡ r x → filter p (filter q xs) ≡ filter r xs → filter p (cond b (x ∷ filter q xs) (filter q xs)) ≡ cond (r x) (x ∷ filter r xs) (filter r xs)
    by true e rest = ap (λ l. cond (p x) (x ∷ l) l) rest ∙ ap (λ c. cond c (x ∷ filter r xs) (filter r xs)) e
    by false e rest = rest ∙ ap (λ c. cond c (x ∷ filter r xs) (filter r xs)) e

module _ (owner : Owner) where
  -- one of the first n
  abbrev below : ℕ → Variable → Bool
  below zero x = false
  below (suc n) x = same_variable (owners_variable owner n) x || below n x

  abbrev keep : ℕ → Variable → Bool
  keep n x = not (below n x)

  below_tells : (n : ℕ) (x : Variable) → below n x ≡ true → (k : ℕ) × (k < n) × (x ≡ owners_variable owner k)
  below_tells zero x e = cc
  below_tells (suc n) x e =
      elim (cases_Bool (same_variable (owners_variable owner n) x)) [
        | inl same ↦ (n, omega arith, sym (variable_is (owners_variable owner n) x same))
        | inr same ↦
            let rest = below_tells n x (sym (ap (λ b. b || below n x) same) ∙ e) in
            (rest.0, omega (arith, rest.1), rest.2)
      ]

  -- what was met before is passed over
  passed : (n : ℕ) (x y : Variable) → below n x ≡ true → cond (not (same_variable x y)) (keep n y) false ≡ keep n y
  passed n x y known = by (same_variable x y) refl
    where
      by : (b : Bool) → same_variable x y ≡ b → cond (not b) (keep n y) false ≡ keep n y
      by true same = ap not (sym known ∙ ap (below n) (variable_is x y same))
      by false same = refl

  -- the next one joins what was met
  joined : (n : ℕ) (x y : Variable) → x ≡ owners_variable owner n → cond (not (same_variable x y)) (keep n y) false ≡ keep (suc n) y
  joined n x y e = by (same_variable x y) refl
    where
      by : (b : Bool) → same_variable x y ≡ b → cond (not b) (keep n y) false ≡ not (same_variable (owners_variable owner n) y || below n y)
      by true same = ap (λ c. not (c || below n y)) (sym same ∙ ap (λ v. same_variable v y) e)
      by false same = ap (λ c. not (c || below n y)) (sym same ∙ ap (λ v. same_variable v y) e)

  none_counted : (n d : ℕ) → [] ≡ owners_variables owner n d → n ≡ n + d
  none_counted n zero e = omega arith
  none_counted n (suc d) e = cc

  numbered_next :
      (n d : ℕ) (x : Variable) (xs : List Variable)
      → ((m : ℕ) → filter (keep (suc n)) (firsts same_variable xs) ≡ owners_variables owner (suc n) m → NumberedTo owner (suc n) xs (suc n + m))
      → x ∷ filter (keep n) (filter (λ y. not (same_variable x y)) (firsts same_variable xs)) ≡ owners_variables owner n d
      → NumberedTo owner n (x ∷ xs) (n + d)
  numbered_next n zero x xs give e = cc
  numbered_next n (suc d) x xs give e =
      let first : x ≡ owners_variable owner n = cc in
      let others : filter (keep n) (filter (λ y. not (same_variable x y)) (firsts same_variable xs)) ≡ owners_variables owner (suc n) d = cc in
      inr (
        first,
        subst (NumberedTo owner (suc n) xs) (omega arith)
            (give d (sym (filter_filter (keep n) (λ y. not (same_variable x y)) (keep (suc n)) (firsts same_variable xs) (λ y. joined n x y first)) ∙ others)),
      )

  numbered_from : (n d : ℕ) (xs : List Variable) → filter (keep n) (firsts same_variable xs) ≡ owners_variables owner n d → NumberedTo owner n xs (n + d)
  numbered_from n d [] e = none_counted n d e
  numbered_from n d (x ∷ xs) e =
      let behind : List Variable = filter (λ y. not (same_variable x y)) (firsts same_variable xs) in
      elim (cases_Bool (below n x)) [
        | inl known ↦
            let k = below_tells n x known in
            let rest : filter (keep n) behind ≡ owners_variables owner n d =
            sym (ap (λ b. cond (not b) (x ∷ filter (keep n) behind) (filter (keep n) behind)) known) ∙ e in
            inl (
              k.0,
              k.1,
              k.2,
              numbered_from n d xs (sym (filter_filter (keep n) (λ y. not (same_variable x y)) (keep n) (firsts same_variable xs) (λ y. passed n x y known)) ∙ rest),
            )
        | inr fresh ↦
            numbered_next n d x xs (λ m c. numbered_from (suc n) m xs c)
            (sym (ap (λ b. cond (not b) (x ∷ filter (keep n) behind) (filter (keep n) behind)) fresh) ∙ e)
      ]

  all_kept : (xs : List Variable) → filter (keep 0) xs ≡ xs
  all_kept [] = refl
  all_kept (x ∷ xs) = ap (λ l. x ∷ l) (all_kept xs)

-- the same from the start on
pub numbered_to : (owner : Owner) (m : ℕ) (xs : List Variable) → firsts same_variable xs ≡ owners_variables owner 0 m → NumberedTo owner 0 xs m
numbered_to owner m xs e = subst (NumberedTo owner 0 xs) (omega arith) (numbered_from owner 0 m xs (all_kept owner (firsts same_variable xs) ∙ e))
