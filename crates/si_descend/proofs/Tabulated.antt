-- A map of finitely many variables, made of a function.
use Rattle.std.proofs.Common.{◌≡◌, ◌⊎◌, inl, inr, Bool, true, false, cond, List, [], ◌∷◌, map, refl, ap, sym, ◌∙◌, subst}
use Rattle.std.proofs.lemmas.Bool.{false≢true}
use Rattle.si_defs.specs.Terms as terms
use Rattle.si_defs.specs.Substitutions.{Substitution, image, apply, lefts, IsAmong, IsOn}
use Rattle.si_defs.proofs.ListLaws.{all_from, among_front, among_back}
use Rattle.si_flat.specs.Cells.{Symbol, Variable, same_variable, Term, Terms}
use Rattle.si_flat.proofs.VariableLaws.{variable_is, variable_self}
use Rattle.si_changes.proofs.ComposeLaws.{same_substituted}

-- two variables are told apart
pub variable_tells : (x y : Variable) → ((same_variable x y ≡ true) × (x ≡ y)) ⊎ ((same_variable x y ≡ false) × (x ≡ y → ⊥))
variable_tells x y = by (same_variable x y) refl where
  by : (b : Bool) → same_variable x y ≡ b → ((same_variable x y ≡ true) × (x ≡ y)) ⊎ ((same_variable x y ≡ false) × (x ≡ y → ⊥))
  by true e = inl (e, variable_is x y e)
  by false e = inr (e, λ p. false≢true (sym e ∙ subst (λ z. same_variable x z ≡ true) p (variable_self x)))

abbrev pub tabulated : (Variable → Term) → List Variable → Substitution Symbol Variable
tabulated f xs = map (λ x. (x, f x)) xs

-- it gives what the function gives, of these variables and of those that the function leaves
pub tabulated_is : (f : Variable → Term) (xs : List Variable) (x : Variable) → IsAmong xs x ⊎ (f x ≡ terms.var x) → image same_variable (tabulated f xs) x ≡ f x
tabulated_is f [] x (inl a) = absurd a
tabulated_is f [] x (inr e) = sym e
tabulated_is f (y ∷ xs) x h = elim (variable_tells y x) as (λ _. image same_variable (tabulated f (y ∷ xs)) x ≡ f x) [
  | inl t ↦ ap (λ b. cond b (f y) (image same_variable (tabulated f xs) x)) t.0 ∙ ap f t.1
  | inr t ↦ ap (λ b. cond b (f y) (image same_variable (tabulated f xs) x)) t.0 ∙ tabulated_is f xs x (later h t.1)
] where
  later : IsAmong (y ∷ xs) x ⊎ (f x ≡ terms.var x) → (y ≡ x → ⊥) → IsAmong xs x ⊎ (f x ≡ terms.var x)
  later (inl (inl e)) apart = absurd (apart e)
  later (inl (inr a)) apart = inl a
  later (inr e) apart = inr e

-- it leaves all others
pub tabulated_other : (f : Variable → Term) (xs : List Variable) (x : Variable) → (IsAmong xs x → ⊥) → image same_variable (tabulated f xs) x ≡ terms.var x
tabulated_other f [] x other = refl
tabulated_other f (y ∷ xs) x other = elim (variable_tells y x) as (λ _. image same_variable (tabulated f (y ∷ xs)) x ≡ terms.var x) [
  | inl t ↦ absurd (other (inl t.1))
  | inr t ↦ ap (λ b. cond b (f y) (image same_variable (tabulated f xs) x)) t.0 ∙ tabulated_other f xs x (λ a. other (inr a))
]

pub tabulated_lefts : (f : Variable → Term) (xs : List Variable) → lefts (tabulated f xs) ≡ xs
tabulated_lefts f [] = refl
tabulated_lefts f (x ∷ xs) = ap (λ l. x ∷ l) (tabulated_lefts f xs)

pub tabulated_on : (f : Variable → Term) (xs : List Variable) → IsOn xs (tabulated f xs)
tabulated_on f xs = all_from (IsAmong xs) (lefts (tabulated f xs)) (λ x a. subst (λ l. IsAmong l x) (tabulated_lefts f xs) a)

-- a map replaces a variable, or leaves it
pub replaced_or_not : (s : Substitution Symbol Variable) (x : Variable) → IsAmong (lefts s) x ⊎ (image same_variable s x ≡ terms.var x)
replaced_or_not [] x = inr refl
replaced_or_not (p ∷ s) x = elim (variable_tells p.0 x) as (λ _. IsAmong (lefts (p ∷ s)) x ⊎ (image same_variable (p ∷ s) x ≡ terms.var x)) [
  | inl t ↦ inl (inl t.1)
  | inr t ↦ (let e = ap (λ b. cond b p.1 (image same_variable s x)) t.0 in elim (replaced_or_not s x) as (λ _. IsAmong (lefts (p ∷ s)) x ⊎ (image same_variable (p ∷ s) x ≡ terms.var x)) [
    | inl a ↦ inl (inr a)
    | inr h ↦ inr (e ∙ h)
  ])
]

-- a map on some variables leaves the others
pub left_alone : (xs : List Variable) (s : Substitution Symbol Variable) (x : Variable) → IsOn xs s → (IsAmong xs x → ⊥) → image same_variable s x ≡ terms.var x
left_alone xs [] x on other = refl
left_alone xs (p ∷ s) x on other = elim (variable_tells p.0 x) as (λ _. image same_variable (p ∷ s) x ≡ terms.var x) [
  | inl t ↦ absurd (other (subst (IsAmong xs) t.1 on.0))
  | inr t ↦ ap (λ b. cond b p.1 (image same_variable s x)) t.0 ∙ left_alone xs s x on.1 other
]

mutual
  -- variables as they are
  pub substituted_none : (f : Variable → Term) (t : Term) → ((x : Variable) → IsAmong (terms.variables t) x → f x ≡ terms.var x) → terms.substitute f t ≡ t
  substituted_none f (terms.var x) e = e x (inl refl)
  substituted_none f (terms.app s ts) e = ap (λ us. terms.app s us) (all_substituted_none f ts e)

  pub all_substituted_none : (f : Variable → Term) (ts : Terms) → ((x : Variable) → IsAmong (terms.variables_of_all ts) x → f x ≡ terms.var x) → terms.substitute_all f ts ≡ ts
  all_substituted_none f terms.none e = refl
  all_substituted_none f (terms.more t ts) e =
      let first = substituted_none f t (λ x a. e x (among_front (terms.variables t) (terms.variables_of_all ts) x a)) in
      let rest = all_substituted_none f ts (λ x a. e x (among_back (terms.variables t) (terms.variables_of_all ts) x a)) in
      λ i. terms.more (first i) (rest i)

-- a map cut down to some variables gives the same of a term whose others it leaves
pub cut_down : (s : Substitution Symbol Variable) (xs : List Variable) (t : Term) → ((x : Variable) → IsAmong (terms.variables t) x → IsAmong xs x ⊎ (image same_variable s x ≡ terms.var x)) → apply same_variable (tabulated (image same_variable s) xs) t ≡ apply same_variable s t
cut_down s xs t h = same_substituted (image same_variable (tabulated (image same_variable s) xs)) (image same_variable s) t (λ x a. tabulated_is (image same_variable s) xs x (h x a))
