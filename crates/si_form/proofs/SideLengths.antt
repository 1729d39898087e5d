-- How long the right sides of a canonical list are.
use Rattle.std.proofs.Common.{◌≡◌, ℕ, ◌+◌, ◌<◌, ◌≤◌, inl, inr, List, [], ◌∷◌, length, suc, sym, ◌∙◌, ap, subst, arith, Option, Some, None}
use Rattle.std.specs.Prelude.{max, IfSome}
use Rattle.std.specs.List.{AllByRecursion}
use Rattle.si_defs.specs.Substitutions.{image, IsAmong}
use Rattle.si_defs.specs.Terms as terms
use Rattle.si_defs.proofs.ListLaws.{all_weaker, all_from}
use Rattle.si_flat.specs.declared.Cell.{Cell}
use Rattle.si_flat.specs.declared.Owner.{Owner}
use Rattle.si_flat.specs.Cells.{Variable, same_variable, Term, StandsFor, IsWhole}
use Rattle.si_flat.proofs.Subterms.{length-cells_of, some_cell}
use Rattle.si_unify.specs.declared.slots.Slots.{Slots}
use Rattle.si_unify.specs.Solving.{Pairs, variable_of, IsAcyclic, IsBinding, AreHandedIn}
use Rattle.si_unify.proofs.Pieces.{all_within}
use Rattle.si_form.specs.declared.solution.Binding.{Binding}
use Rattle.si_form.specs.Answers.{owners_variables, StandsForList}
use Rattle.si_form.specs.Folding.{folded, folded_all}
use Rattle.si_form.specs.Matching.{pairs, Assigns, MatchAnswers}
use Rattle.si_form.specs.Ordering.{IsListed}
use Rattle.si_form.specs.SolutionParts.{AreNoLonger}
use Rattle.si_form.specs.Unifying.{IsApplication, right_side, IsToBind, listed_bindings, HasGeneral, ListsAllBindings}
use Rattle.si_form.proofs.AnswerLaws.{image_agrees}
use Rattle.si_form.proofs.DownLaws.{ComesFromUpTo, comes_from_value}
use Rattle.si_form.proofs.OrderedLaws.{listed_all}
use Rattle.si_form.proofs.RightSides.{none_longer, right_of_follower, right_of_leader}
use Rattle.si_form.proofs.UnifierThere.{size_inside}
use Rattle.si_flat.proofs.FirstPlaces.{firsts_among}

length_of : (cells : List Cell) (t : Term) → StandsFor cells t → length cells ≡ terms.size t
length_of cells t h = ap length h.cells_are ∙ length-cells_of t

-- ---- matching: a variable's image is a part of the target
module _ (owner : Owner) (f : Variable → Term) (n : ℕ) where
  images_within : (k : ℕ) (us : List Term) (bindings : List Binding) → Assigns owner f k us → AllByRecursion (λ x. terms.size (f x) ≤ n) (owners_variables owner k (length us)) → StandsForList bindings (pairs owner k us) → AreNoLonger n bindings
  images_within k [] [] assigns few h = tt
  images_within k [] (b ∷ bs) assigns few h = elim h [ ]
  images_within k (u ∷ us) [] assigns few h = elim h [ ]
  images_within k (u ∷ us) (b ∷ bs) assigns few h = (
    omega (arith, few.0, length_of b.value u h.0.right, ap terms.size assigns.0),
    images_within (suc k) us bs assigns.1 few.1 h.1,
  )

pub matched_within : (owner : Owner) (pattern target : List Cell) (answer : Option (List Binding)) → IsWhole pattern → IsWhole target → MatchAnswers owner pattern target answer → IfSome answer (AreNoLonger (length target))
matched_within owner pattern target None p t h = tt
matched_within owner pattern target (Some bindings) p t h =
    let found = h p.0 t.0 p.1 t.1 in
    let us : List Term = found.0 in
    let f : Variable → Term = image same_variable (pairs owner 0 us) in
    let assigns = image_agrees owner 0 us in
    let whole : terms.substitute f p.0 ≡ t.0 = found.2.takes f assigns in
    images_within owner f (length target) 0 us bindings assigns
    (
    all_from (λ x. terms.size (f x) ≤ length target) (owners_variables owner 0 (length us))
    (λ x a.
    let among = firsts_among same_variable (terms.variables p.0) x (subst (λ l. IsAmong l x) (sym found.2.numbered) a) in
    let part = size_inside f p.0 x among in
    omega (arith, part, ap terms.size whole, length_of target t.0 t.1))
    )
    found.1

-- ---- unifying: a folded term is no longer than the value that it comes from
module _ (slots : Slots) (f : Variable → Term) (n : ℕ) (some : 0 < n) where
  folded_within : (k : ℕ) → IsApplication (f (variable_of slots k)) → ComesFromUpTo slots f k n → terms.size (folded slots f (f (variable_of slots k))) ≤ n
  folded_within k applied from =
      elim from [
        | inl free ↦ (let bad : terms.var free.0 ≡ terms.app applied.0 applied.1 = sym free.1 ∙ applied.2 in cc)
        | inr bound ↦
            let least = none_longer slots f bound.2.arguments bound.2.known in
            let whole : terms.size (folded slots f (f (variable_of slots k))) ≡ 1 + terms.sizes (folded_all slots f (terms.substitute_all f bound.2.arguments)) =
            ap (λ t. terms.size (folded slots f t)) bound.2.image_is in
            omega (arith, whole, least, bound.2.size_is, bound.1)
      ]

  side_within : (k : ℕ) → IsToBind slots f k → ComesFromUpTo slots f k n → terms.size (right_side slots f k) ≤ n
  side_within k b from =
      elim b.1 [
        | inl follows ↦ omega (arith, ap terms.size (right_of_follower slots f k follows.0 follows.1 follows.2), some)
        | inr leads ↦ (let few = folded_within k leads.1 from in omega (arith, ap terms.size (right_of_leader slots f k leads.0), few))
      ]

  sides_within : (ks : List ℕ) (bindings : List Binding) → AllByRecursion (λ k. terms.size (right_side slots f k) ≤ n) ks → StandsForList bindings (listed_bindings slots (right_side slots f) ks) → AreNoLonger n bindings
  sides_within [] [] few h = tt
  sides_within [] (b ∷ bs) few h = elim h [ ]
  sides_within (k ∷ ks) [] few h = elim h [ ]
  sides_within (k ∷ ks) (b ∷ bs) few h = (omega (arith, few.0, length_of b.value (right_side slots f k) h.0.right), sides_within ks bs few.1 h.1)

pub list_within :
    (slots : Slots) (solved : Pairs) (n : ℕ) (bindings : List Binding)
    → 0 < n
    → AllByRecursion (IsBinding slots) solved
    → IsAcyclic slots solved
    → AllByRecursion (λ pair. length pair.1.now ≤ n) solved
    → HasGeneral slots solved
    → ListsAllBindings slots solved bindings
    → AreNoLonger n bindings
list_within slots solved n bindings some legal acyclic few has all =
    let f = has.0 in
    let whole = all f has.1 in
    sides_within slots f n some whole.ks bindings
    (
    all_weaker (IsListed whole.used) (λ k. terms.size (right_side slots f k) ≤ n) whole.ks
    (λ k l.
    let b = whole.to_bind k l in
    side_within slots f n some k b (comes_from_value slots solved legal n few k f has.1 acyclic b.0))
    (listed_all whole.used [] whole.ks whole.ordered.next)
    )
    whole.stands

-- what two terms are solved by
pub unifier_within : (slots : Slots) (query entry : List Cell) (solved : Pairs) (bindings : List Binding) → IsWhole query → AllByRecursion (IsBinding slots) solved → IsAcyclic slots solved → AreHandedIn [] solved query entry → HasGeneral slots solved → ListsAllBindings slots solved bindings → AreNoLonger (max (length query) (length entry)) bindings
unifier_within slots query entry solved bindings whole legal acyclic handed has all =
    let n : ℕ = max (length query) (length entry) in
    let some : 0 < n = omega (arith, some_cell query whole) in
    list_within slots solved n bindings some legal acyclic
    (all_within n query entry (omega arith) (omega arith) [] tt solved handed) has all
