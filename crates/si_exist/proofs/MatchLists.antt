-- Where a term is an instance of another, the variables of that, each with its image, are the
-- canonical list.
use Rattle.std.proofs.Common.{◌≡◌, Bool, true, List, [], ◌∷◌, refl, sym, ◌∙◌, ap}
use Rattle.std.specs.List.{AllByRecursion}
use Rattle.si_defs.specs.Bytes.{Bytes}
use Rattle.si_defs.specs.Terms.{Term, Terms, var, app, none, more, variables, variables_of_all, substitute, substitute_all, firsts, rename, rename_all}
use Rattle.si_defs.specs.Substitutions.{Substitution, image, lefts, IsAmong}
use Rattle.si_defs.specs.Relations.{Matches}
use Rattle.si_defs.specs.Solutions.{IsCanonicalMatch}
use Rattle.si_defs.specs.Clauses as clauses
use Rattle.si_defs.specs.Variables.{Variable, of_pattern, of_entry, same_variable, Solution, pattern_term, entry_term}
use Rattle.si_defs.proofs.ListLaws.{all_at, all_from, all_front, all_back, all_append}
use Rattle.si_defs.proofs.VariableLaws.{variable_is, variable_self}
use Rattle.si_flat.proofs.FirstPlaces.{among_firsts}
use Rattle.si_form.proofs.CanonicalLaws.{canonical_match}
use Rattle.si_form.proofs.Carrying.{tabulate, image_tabulated}

-- ---- terms
module _ {S V : Type 0} where
  mutual
    -- two maps that agree at the variables take the term to the same
    pub agreeing : (f g : V → Term S V) (t : Term S V) → AllByRecursion (λ x. f x ≡ g x) (variables t) → substitute f t ≡ substitute g t
    agreeing f g (var x) h = h.0
    agreeing f g (app s ts) h = ap (app s) (all_agreeing f g ts h)

    all_agreeing : (f g : V → Term S V) (ts : Terms S V) → AllByRecursion (λ x. f x ≡ g x) (variables_of_all ts) → substitute_all f ts ≡ substitute_all g ts
    all_agreeing f g none h = refl
    all_agreeing f g (more t ts) h =
        ap (λ u. more u (substitute_all f ts)) (agreeing f g t (all_front (λ x. f x ≡ g x) (variables t) (variables_of_all ts) h))
        ∙ ap (more (substitute g t)) (all_agreeing f g ts (all_back (λ x. f x ≡ g x) (variables t) (variables_of_all ts) h))

-- ---- the list
module _ {S V : Type 0} (same : V → V → Bool) (tells : (x y : V) → same x y ≡ true → x ≡ y) (itself : (x : V) → same x x ≡ true) where
  pub lefts_are : (h : V → Term S V) (xs : List V) → lefts (tabulate same tells itself h xs) ≡ xs
  lefts_are h [] = refl
  lefts_are h (x ∷ xs) = ap (λ l. x ∷ l) (lefts_are h xs)

  -- each of these variables with its image
  abbrev pub with_images : Substitution S V → List V → Substitution S V
  with_images s xs = tabulate same tells itself (image same s) xs

  pub instance_list :
      (P : V → Type 0) (q e : Term S V) (s : Substitution S V)
      → Matches same q e s
      → AllByRecursion P (variables e)
      → ((x : V) → IsAmong (variables q) x → P x → ⊥)
      → IsCanonicalMatch same q e (with_images s (firsts same (variables q)))
  instance_list P q e s h target apart =
      let list = with_images s (firsts same (variables q)) in
      canonical_match same tells itself P q e list (lefts_are (image same s) (firsts same (variables q)))
      (
      agreeing (image same list) (image same s) q
      (all_from (λ x. image same list x ≡ image same s x) (variables q) (λ x a. image_tabulated same tells itself (image same s) (firsts same (variables q)) x (among_firsts same tells (variables q) x a)))
      ∙ h.takes
      )
      target apart

-- ---- a pattern's term and an entry's
abbrev IsOfPattern : Variable → Type 0
IsOfPattern x = (name : Bytes) × (x ≡ of_pattern name)

abbrev IsOfEntry : Variable → Type 0
IsOfEntry x = (name : Bytes) × (x ≡ of_entry name)

module _ (g : Bytes → Variable) where
  mutual
    renamed : (t : clauses.Term) → AllByRecursion (λ x. (name : Bytes) × (x ≡ g name)) (variables (rename g t))
    renamed (var x) = ((x, refl), tt)
    renamed (app s ts) = all_renamed ts

    all_renamed : (ts : clauses.Terms) → AllByRecursion (λ x. (name : Bytes) × (x ≡ g name)) (variables_of_all (rename_all g ts))
    all_renamed none = tt
    all_renamed (more t ts) = all_append (λ x. (name : Bytes) × (x ≡ g name)) (variables (rename g t)) (variables_of_all (rename_all g ts)) (renamed t) (all_renamed ts)

are_apart : (x : Variable) → IsOfPattern x → IsOfEntry x → ⊥
are_apart x p e = let bad : of_pattern p.0 ≡ of_entry e.0 = sym p.1 ∙ e.1 in cc

-- the list of an instance, and that of a generalization
pub pattern_list : (p u : clauses.Term) (s : Solution) → Matches same_variable (pattern_term p) (entry_term u) s → (list : Solution) × IsCanonicalMatch same_variable (pattern_term p) (entry_term u) list
pattern_list p u s h = (
  with_images same_variable variable_is variable_self s (firsts same_variable (variables (pattern_term p))),
  instance_list same_variable variable_is variable_self IsOfEntry (pattern_term p) (entry_term u) s h (renamed of_entry u)
      (λ x a e. are_apart x (all_at IsOfPattern (variables (pattern_term p)) x (renamed of_pattern p) a) e),
)

pub entry_list : (p u : clauses.Term) (s : Solution) → Matches same_variable (entry_term u) (pattern_term p) s → (list : Solution) × IsCanonicalMatch same_variable (entry_term u) (pattern_term p) list
entry_list p u s h = (
  with_images same_variable variable_is variable_self s (firsts same_variable (variables (entry_term u))),
  instance_list same_variable variable_is variable_self IsOfPattern (entry_term u) (pattern_term p) s h (renamed of_pattern p)
      (λ x a e. are_apart x e (all_at IsOfEntry (variables (entry_term u)) x (renamed of_entry u) a)),
)
