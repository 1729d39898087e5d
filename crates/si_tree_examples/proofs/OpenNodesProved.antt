-- Open and closed nodes, proved.
use Rattle.std.proofs.Common.{◌≡◌, inl, inr, ℕ, [], ◌∷◌, refl, ap, sym, ◌∙◌, arith}
use Rattle.std.specs.List.{AllByRecursion}
use Rattle.si_defs.specs.Terms as terms
use Rattle.si_defs.specs.Substitutions.{Substitution, image, lefts, IsAmong}
use Rattle.si_flat.specs.Cells.{Symbol, Variable, query, entry, ind, same_variable, Term}
use Rattle.si_legal.specs.Bindings.{indicator}
use Rattle.si_tree_examples.specs.SomeTerms.{a}
use Rattle.si_tree_examples.specs.SomeOpenNodes.{OpenForInstances, ConstantVariable, OnlyGeneralization, OpenForVariants, NoTwoForOne, ClosedByHead}

pub open_for_instances : OpenForInstances
open_for_instances = ((query 0, indicator 1) ∷ [], (inl refl, tt), refl)

-- the arguments of a term, and the first of them
abbrev first : Term → Term
first (terms.var z) = terms.var z
first (terms.app s terms.none) = terms.app s terms.none
first (terms.app s (terms.more t ts)) = t

abbrev second : Term → Term
second (terms.app s (terms.more t (terms.more u ts))) = u
second t = t

abbrev head_number : Term → ℕ
head_number (terms.var z) = 0
head_number (terms.app s ts) = s.number

no_variable : (z : Variable) → a ≡ terms.var z → ⊥
no_variable z e = omega (arith, ap head_number e)

-- a map on no variable leaves each as it is
left_alone : (s : Substitution Symbol Variable) (z : Variable) → AllByRecursion (IsAmong {V = Variable} []) (lefts s) → image same_variable s z ≡ terms.var z
left_alone [] z h = refl
left_alone (p ∷ s) z h = absurd h.0

pub constant_variable : ConstantVariable
constant_variable = (
  ((entry 0, a) ∷ [], refl),
  (λ h. no_variable (entry 0) (ap first h.2 ∙ left_alone h.0 (entry 0) h.1)),
)

pub only_generalization : OnlyGeneralization
only_generalization = (
  ((entry 0, a) ∷ [], record { on = (inl refl, tt); takes = refl }),
  (λ h. let named = h.2.renames 0 (inl refl) in no_variable named.0 (sym (ap first h.1.takes) ∙ named.1)),
)

pub no_entry : (m n : ℕ) → IsAmong (ind n ∷ []) (entry m) → ⊥
no_entry m n (inl e) = cc
no_entry m n (inr h) = h

pub open_for_variants : OpenForVariants
open_for_variants = (
  (ind 1, a) ∷ [],
  record { on = (inl refl, tt); takes = refl },
  record { renames = λ m h. absurd (no_entry m 1 h); apart = λ m n h k e. absurd (no_entry m 1 h) },
)

pub no_two_for_one : NoTwoForOne
no_two_for_one h = omega (arith, h.2.apart 0 1 (inl refl) (inr (inl refl)) (ap first h.1.takes ∙ sym (ap second h.1.takes)))

pub closed_by_head : ClosedByHead
closed_by_head h = omega (arith, ap head_number h.1)
