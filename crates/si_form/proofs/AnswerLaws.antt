-- From a match to the canonical list of each relation.
use Rattle.std.proofs.Common.{◌≡◌, ℕ, ◌<◌, inl, inr, Bool, true, false, cond, List, [], ◌∷◌, length, map, suc, refl, sym, ◌∙◌, ap, subst, arith, Option, Some, None, Result, Ok, Err}
use Rattle.std.specs.Prelude.{IfOk}
use Rattle.std.specs.List.{AllByRecursion}
use Rattle.si_defs.specs.Terms as terms
use Rattle.si_defs.specs.Substitutions.{image, lefts, IsAmong}
use Rattle.si_defs.specs.Relations as relations
use Rattle.si_defs.specs.declared.Relation.TheVariants.{Variants, Instances, Generalizations}
use Rattle.si_defs.specs.Solutions.{IsCanonicalMatch}
use Rattle.si_flat.specs.declared.Cell.{Cell}
use Rattle.si_flat.specs.Cells.{Variable, same_variable, Term}
use Rattle.si_flat.specs.declared.Owner.{Owner}
use Rattle.si_flat.specs.declared.Owner.TheVariants.{Query, Entry}
use Rattle.si_form.specs.declared.solution.Binding.{Binding}
use Rattle.si_form.specs.declared.matching.Image.{Image}
use Rattle.si_flat.specs.Flattening.{owners_variable}
use Rattle.si_form.specs.Answers.{owners_variables, IsNumbered, AreNumbered, StandsForList, AnswersTo, Answers}
use Rattle.si_form.specs.Matching.{AreNumberedImages, AreWholeImages, pairs, Assigns, MatchesBy, NoMatch, IsMatched, binding_of, MatchAnswersTo, MatchAnswers}
use Rattle.si_flat.proofs.VariableLaws.{variable_is, variable_self}
use Rattle.si_form.proofs.VariableLaws.{variable_injective}
use Rattle.si_form.proofs.Counting.{NumberedTo, numbered_to}
use Rattle.si_form.proofs.CanonicalLaws.{canonical_match, one_match}

-- ---- images
pub images_stand : (owner : Owner) (k : ℕ) (images : List Image) (us : List Term) → AreNumberedImages k images us → StandsForList (map (binding_of owner) images) (pairs owner k us)
images_stand owner k [] [] h = tt
images_stand owner k [] (u ∷ us) h = elim h [ ]
images_stand owner k (i ∷ is) [] h = elim h [ ]
images_stand owner k (i ∷ is) (u ∷ us) h = (record { left = ap (owners_variable owner) (sym h.0); right = h.1 }, images_stand owner (suc k) is us h.2)

pub images_whole : (k : ℕ) (images : List Image) (us : List Term) → AreNumberedImages k images us → AreWholeImages images
images_whole k [] [] h = tt
images_whole k [] (u ∷ us) h = elim h [ ]
images_whole k (i ∷ is) [] h = elim h [ ]
images_whole k (i ∷ is) (u ∷ us) h = ((u, h.1), images_whole (suc k) is us h.2)

-- ---- the map that the pairs make
lefts_counted : (owner : Owner) (k : ℕ) (us : List Term) → lefts (pairs owner k us) ≡ owners_variables owner k (length us)
lefts_counted owner k [] = refl
lefts_counted owner k (u ∷ us) = ap (λ l. owners_variable owner k ∷ l) (lefts_counted owner (suc k) us)

-- f goes by the pairs at each of these variables
later_image : (owner : Owner) (k m : ℕ) (u : Term) (bs : List (Variable × Term)) → k < m → image same_variable ((owners_variable owner k, u) ∷ bs) (owners_variable owner m) ≡ image same_variable bs (owners_variable owner m)
later_image owner k m u bs less = by (same_variable (owners_variable owner k) (owners_variable owner m)) refl
  where
    by : (b : Bool) → same_variable (owners_variable owner k) (owners_variable owner m) ≡ b → cond b u (image same_variable bs (owners_variable owner m)) ≡ image same_variable bs (owners_variable owner m)
    by true e = absurd (omega (arith, less, variable_injective owner k m (variable_is (owners_variable owner k) (owners_variable owner m) e)))
    by false e = refl

agrees_later : (owner : Owner) (f g : Variable → Term) (k : ℕ) (us : List Term) → ((m : ℕ) → k < suc m → f (owners_variable owner m) ≡ g (owners_variable owner m)) → Assigns owner g k us → Assigns owner f k us
agrees_later owner f g k [] give h = tt
agrees_later owner f g k (u ∷ us) give h = (give k (omega arith) ∙ h.0, agrees_later owner f g (suc k) us (λ m less. give m (omega (arith, less))) h.1)

pub image_agrees : (owner : Owner) (k : ℕ) (us : List Term) → Assigns owner (image same_variable (pairs owner k us)) k us
image_agrees owner k [] = tt
image_agrees owner k (u ∷ us) = (
  ap (λ b. cond b u (image same_variable (pairs owner (suc k) us) (owners_variable owner k))) (variable_self (owners_variable owner k)),
  agrees_later owner (image same_variable (pairs owner k (u ∷ us))) (image same_variable (pairs owner (suc k) us)) (suc k) us
      (λ m less. later_image owner k m u (pairs owner (suc k) us) (omega (arith, less))) (image_agrees owner (suc k) us),
)

-- ---- variables apart
abbrev IsNot : Owner → Variable → Type 0
IsNot owner x = (n : ℕ) → x ≡ owners_variable owner n → ⊥

abbrev other : Owner → Owner
other Query = Entry
other Entry = Query

other_is_not : (owner : Owner) (k : ℕ) → IsNot owner (owners_variable (other owner) k)
other_is_not Query k n e = cc
other_is_not Entry k n e = cc

none_numbered : (owner : Owner) (n m : ℕ) (xs : List Variable) → NumberedTo (other owner) n xs m → AllByRecursion (IsNot owner) xs
none_numbered owner n m [] h = tt
none_numbered owner n m (x ∷ xs) h =
    elim h [
      | inl met ↦ (subst (IsNot owner) (sym met.2) (other_is_not owner met.0), none_numbered owner n m xs met.3)
      | inr next ↦ (subst (IsNot owner) (sym next.0) (other_is_not owner n), none_numbered owner (suc n) m xs next.1)
    ]

some_numbered : (owner : Owner) (n m : ℕ) (xs : List Variable) (x : Variable) → NumberedTo owner n xs m → IsAmong xs x → (k : ℕ) × (x ≡ owners_variable owner k)
some_numbered owner n m [] x h a = elim a [ ]
some_numbered owner n m (y ∷ xs) x h a =
    elim h [
      | inl met ↦ elim a [ inl e ↦ (met.0, sym e ∙ met.2) | inr b ↦ some_numbered owner n m xs x met.3 b ]
      | inr next ↦ elim a [ inl e ↦ (n, sym e ∙ next.0) | inr b ↦ some_numbered owner (suc n) m xs x next.1 b ]
    ]

-- ---- canonical
canonical_of : (owner : Owner) (q e : Term) (us : List Term) → MatchesBy owner q e us → IsNumbered (other owner) e → IsCanonicalMatch same_variable q e (pairs owner 0 us)
canonical_of owner q e us h numbered =
    canonical_match same_variable variable_is variable_self (IsNot owner) q e (pairs owner 0 us)
    (lefts_counted owner 0 us ∙ sym h.numbered)
    (h.takes (image same_variable (pairs owner 0 us)) (image_agrees owner 0 us))
    (none_numbered owner 0 numbered.0 (terms.variables e) (numbered_to (other owner) numbered.0 (terms.variables e) numbered.1))
    (λ x a p. let k = some_numbered owner 0 (length us) (terms.variables q) x (numbered_to owner (length us) (terms.variables q) h.numbered) a in p k.0 k.1)

only_one : (q e : Term) (bs cs : List (Variable × Term)) → IsCanonicalMatch same_variable q e bs → IsCanonicalMatch same_variable q e cs → cs ≡ bs
only_one q e bs cs h k = one_match same_variable variable_is variable_self q e cs bs k h

no_instance : (q e : Term) → NoMatch q e → relations.IsInstance same_variable q e → ⊥
no_instance q e h s = h (image same_variable s.0) s.1.takes

-- ---- the answers
pub instance_told : (q e : Term) (answer : Option (List Binding)) → MatchAnswersTo Query q e answer → IsNumbered Entry e → AnswersTo Instances q e answer
instance_told q e None h numbered = no_instance q e h
instance_told q e (Some bindings) h numbered =
    let canonical = canonical_of Query q e h.0 h.2 numbered in
    (pairs Query 0 h.0, h.1, record { canonical = canonical; only = λ cs k. only_one q e (pairs Query 0 h.0) cs canonical k })

pub generalization_told : (q e : Term) (answer : Option (List Binding)) → MatchAnswersTo Entry e q answer → IsNumbered Query q → AnswersTo Generalizations q e answer
generalization_told q e None h numbered = no_instance e q h
generalization_told q e (Some bindings) h numbered =
    let canonical = canonical_of Entry e q h.0 h.2 numbered in
    (pairs Entry 0 h.0, h.1, record { canonical = canonical; only = λ cs k. only_one e q (pairs Entry 0 h.0) cs canonical k })

-- the entry takes the query as an instance too
pub variant_told : (q e : Term) (answer : Option (List Binding)) (vs : List Term) → MatchesBy Entry e q vs → MatchAnswersTo Query q e answer → IsNumbered Query q → IsNumbered Entry e → AnswersTo Variants q e answer
variant_told q e None vs back h q_numbered numbered = λ both. no_instance q e h both.0
variant_told q e (Some bindings) vs back h q_numbered numbered =
    let canonical = canonical_of Query q e h.0 h.2 numbered in
    let reverse : relations.IsInstance same_variable e q = (pairs Entry 0 vs, (canonical_of Entry e q vs back q_numbered).matches) in (
      pairs Query 0 h.0,
      h.1,
      record {
        canonical = ((((pairs Query 0 h.0), canonical.matches), reverse), canonical);
        only = λ cs k. only_one q e (pairs Query 0 h.0) cs canonical k.1;
      },
    )

pub variant_refused : (q e : Term) → NoMatch e q → relations.Relates same_variable Variants q e → ⊥
variant_refused q e h both = no_instance e q h both.1

-- ---- the same of cells
module _ {E : Type 0} where
  pub instance_answers : (query_cells entry_cells : List Cell) (r : Result (Option (List Binding)) E) → AreNumbered Entry entry_cells → IfOk r (MatchAnswers Query query_cells entry_cells) → IfOk r (Answers Instances query_cells entry_cells)
  instance_answers query_cells entry_cells (Ok answer) numbered h = λ q e p t. instance_told q e answer (h q e p t) (numbered e t)
  instance_answers query_cells entry_cells (Err error) numbered h = h

  pub generalization_answers : (query_cells entry_cells : List Cell) (r : Result (Option (List Binding)) E) → AreNumbered Query query_cells → IfOk r (MatchAnswers Entry entry_cells query_cells) → IfOk r (Answers Generalizations query_cells entry_cells)
  generalization_answers query_cells entry_cells (Ok answer) numbered h = λ q e p t. generalization_told q e answer (h e q t p) (numbered q p)
  generalization_answers query_cells entry_cells (Err error) numbered h = h

  pub variant_answers : (query_cells entry_cells : List Cell) (images : List Image) (r : Result (Option (List Binding)) E) → AreNumbered Query query_cells → AreNumbered Entry entry_cells → IsMatched Entry entry_cells query_cells images true → IfOk r (MatchAnswers Query query_cells entry_cells) → IfOk r (Answers Variants query_cells entry_cells)
  variant_answers query_cells entry_cells images (Ok answer) q_numbered numbered back h = λ q e p t. let k = back e q t p in variant_told q e answer k.0 k.2 (h q e p t) (q_numbered q p) (numbered e t)
  variant_answers query_cells entry_cells images (Err error) q_numbered numbered back h = h
