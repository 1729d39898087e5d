-- Matching: which slices of the target the variables of the pattern stand for.
use Rattle.std.specs.Prelude.{◌≡◌, ℕ, suc, ◌↔◌, Bool, true, false, if◌then◌else◌, IsTrue, IsFalse, List, [], ◌∷◌, ◌++◌, length, take, drop, slice_get, slice_index_or as get_or, Option, None, Some}
use Rattle.std.specs.List.{AllByRecursion}
use Rattle.std.specs.Borrow.{Bor}
use Rattle.si_defs.specs.Terms as terms
use Rattle.si_flat.specs.declared.Cell.{Cell}
use Rattle.si_flat.specs.declared.Cell.TheVariants as cell
use Rattle.si_flat.specs.Cells.{Variable, same_variable, Term, StandsFor, IsWhole}
use Rattle.si_flat.specs.declared.Owner.{Owner}
use Rattle.si_flat.specs.declared.Owner.TheVariants.{Query, Entry}
use Rattle.si_unify.specs.Symbols.{same_symbol}
use Rattle.si_form.specs.declared.solution.Binding.{Binding}
use Rattle.si_form.specs.declared.matching.Image.{Image}
use Rattle.si_flat.specs.Flattening.{owners_variable}
use Rattle.si_form.specs.Answers.{owners_variables, StandsForList}

-- ---- cells
abbrev pub variable_number : Owner → Cell → Option ℕ
variable_number Query (cell.Query n) = Some n
variable_number Entry (cell.Entry n) = Some n
variable_number _ _ = None

-- ---- one cell of the pattern
-- a variable that was met stands for what it stood for; another is added
abbrev pub HasKnownAs : ℕ → Bor (List Cell) → List Image → List Image → Option Image → Bool → Type 0
HasKnownAs number value old new None fits =
    (fits ≡ true) × (new ≡ old ++ (record { number = number; value = value }) ∷ [])
HasKnownAs number value old new (Some image) fits =
    (new ≡ old) × (IsTrue fits ↔ (image.value.now ≡ value.now))

abbrev pub HasKnown : ℕ → Bor (List Cell) → List Image → List Image → Bool → Type 0
HasKnown number value old new = HasKnownAs number value old new (slice_get old number)

pub record StepsOver (number : ℕ) (target : List Cell) (at : ℕ) (old new : List Image)
    (answer : Option ℕ) : Type 0 where
  pub value : Bor (List Cell)
  pub place : value.now ≡ take (length value.now) (drop at target)
  pub whole : IsWhole value.now
  pub fits : Bool
  pub known : HasKnown number value old new fits
  pub answer_is : answer ≡ (if fits then Some (length value.now) else None)

abbrev pub ComparesSymbols : Cell → Cell → Option ℕ → Type 0
ComparesSymbols c d (Some n) = IsTrue (same_symbol c d) × (n ≡ 1)
ComparesSymbols c d None = IsFalse (same_symbol c d)

abbrev pub StepsAs : Cell → List Cell → ℕ → List Image → List Image → Option ℕ → Option ℕ → Type 0
StepsAs c target at old new (Some number) answer = StepsOver number target at old new answer
StepsAs c target at old new None answer =
    (new ≡ old) × ComparesSymbols c (get_or target at (cell.App 0 0 0)) answer

abbrev pub StepsOnCell : Owner → Cell → List Cell → ℕ → List Image → List Image → Option ℕ → Type 0
StepsOnCell owner c target at old new = StepsAs c target at old new (variable_number owner c)

-- ---- a whole pattern
-- the images are numbered from k on, and their slices stand for these terms
abbrev pub AreNumberedImages : ℕ → List Image → List Term → Type 0
AreNumberedImages k [] [] = Unit {0}
AreNumberedImages k [] (u ∷ us) = ⊥
AreNumberedImages k (i ∷ is) [] = ⊥
AreNumberedImages k (i ∷ is) (u ∷ us) =
    (i.number ≡ k) × StandsFor i.value.now u × AreNumberedImages (suc k) is us

abbrev pub AreWholeImages : List Image → Type 0
AreWholeImages = AllByRecursion (λ i. IsWhole i.value.now)

-- the variables from number k on, each with its term
abbrev pub pairs : Owner → ℕ → List Term → List (Variable × Term)
pairs owner k [] = []
pairs owner k (u ∷ us) = (owners_variable owner k, u) ∷ pairs owner (suc k) us

-- f takes the variables from number k on to these terms
abbrev pub Assigns : Owner → (Variable → Term) → ℕ → List Term → Type 0
Assigns owner f k [] = Unit {0}
Assigns owner f k (u ∷ us) = (f (owners_variable owner k) ≡ u) × Assigns owner f (suc k) us

-- q has as many variables as there are terms, and becomes e where they are replaced by these
pub record MatchesBy (owner : Owner) (q e : Term) (us : List Term) : Type 0 where
  pub numbered : terms.firsts same_variable (terms.variables q)
      ≡ owners_variables owner 0 (length us)
  pub takes : (f : Variable → Term) → Assigns owner f 0 us → terms.substitute f q ≡ e

abbrev pub NoMatch : Term → Term → Type 0
NoMatch q e = (f : Variable → Term) → terms.substitute f q ≡ e → ⊥

abbrev pub IsMatchedBy : Owner → Term → Term → List Image → Bool → Type 0
IsMatchedBy owner q e images true =
    (us : List Term) × AreNumberedImages 0 images us × MatchesBy owner q e us
IsMatchedBy owner q e images false = NoMatch q e

abbrev pub IsMatched : Owner → List Cell → List Cell → List Image → Bool → Type 0
IsMatched owner pattern target images b =
    (q e : Term) → StandsFor pattern q → StandsFor target e → IsMatchedBy owner q e images b

-- the bindings of the images
abbrev pub binding_of : Owner → Image → Binding
binding_of owner i = record { owner = owner; slot = i.number; value = i.value.now }

abbrev pub MatchAnswersTo : Owner → Term → Term → Option (List Binding) → Type 0
MatchAnswersTo owner q e None = NoMatch q e
MatchAnswersTo owner q e (Some bindings) =
    (us : List Term) × StandsForList bindings (pairs owner 0 us) × MatchesBy owner q e us

abbrev pub MatchAnswers : Owner → List Cell → List Cell → Option (List Binding) → Type 0
MatchAnswers owner pattern target answer =
    (q e : Term) → StandsFor pattern q → StandsFor target e → MatchAnswersTo owner q e answer
