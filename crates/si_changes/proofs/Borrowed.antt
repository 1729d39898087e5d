-- Small laws of lists and of bindings.
use Rattle.std.proofs.Common.{◌≡◌, ℕ, inl, inr, Bool, true, false, cond, List, [], ◌∷◌, refl, ap, ◌∙◌}
use Rattle.std.proofs.lemmas.Bool.Decides.{eqb_tells}
use Rattle.si_defs.specs.Substitutions.{image, IsAmong}
use Rattle.si_flat.specs.Cells.{ind, same_variable, Term}
use Rattle.si_flat.specs.Rows.{left_sides}
use Rattle.si_legal.specs.Bindings.{Binding, indicator, substitution_of}

-- ---- choices by a test
-- what holds of a choice by a test
pub chosen : {X : Type 0} (P : List X → Type 0) (b : Bool) (x : X) (xs : List X) → P (x ∷ xs) → P xs → P (cond b (x ∷ xs) xs)
chosen P true x xs p q = p
chosen P false x xs p q = q

-- ---- bindings
pub image_other : (bs : List Binding) (n : ℕ) → (IsAmong (left_sides bs) n → ⊥) → image same_variable (substitution_of bs) (ind n) ≡ indicator n
image_other [] n other = refl
image_other (b ∷ bs) n other = elim (eqb_tells b.0 n) as (λ _. image same_variable (substitution_of (b ∷ bs)) (ind n) ≡ indicator n) [
  | inl h ↦ absurd (other (inl h.1))
  | inr h ↦ ap (λ t. cond t b.1 (image same_variable (substitution_of bs) (ind n))) h.0 ∙ image_other bs n (λ a. other (inr a))
]

pub bound_left : (bs : List Binding) (n : ℕ) → IsAmong (left_sides bs) n → (a : Term) × IsAmong bs (n, a)
bound_left [] n m = absurd m
bound_left (b ∷ bs) n (inl e) = (b.1, inl (λ i. (e i, b.1)))
bound_left (b ∷ bs) n (inr m) = let rest = bound_left bs n m in (rest.0, inr rest.1)
