-- What stands in the canonical list of two terms.
use Rattle.std.specs.Prelude.{◌≡◌, ℕ, ◌≤◌, Bool, List, length, Option}
use Rattle.std.specs.List.{AllByRecursion}
use Rattle.si_defs.specs.Terms.{variables, symbols}
use Rattle.si_defs.specs.Symbols.{Symbol}
use Rattle.si_defs.specs.Clauses.{Term, IsSoundAtom}
use Rattle.si_defs.specs.Substitutions.{IsAmong}
use Rattle.si_defs.specs.declared.Relation.{Relation}
use Rattle.si_defs.specs.declared.Side.TheVariants.{Function}
use Rattle.si_defs.specs.Variables.{Variable, Apart, Solution}
use Rattle.si_flat.specs.Cells as cells
use Rattle.si_flat.specs.Numbered.{signed}
use Rattle.si_form.specs.declared.solution.Binding.{Binding}
use Rattle.si_form.specs.Numberings.{list_by, symbols_of, IsVariableOf, IsCanonicalFor, AnswersToTexts}

-- all variables and symbols of a binding are of the two terms
pub record IsBindingOf (p u : Term) (b : Variable × Apart) : Type 0 where
  pub left : IsVariableOf p u b.0
  pub variables : AllByRecursion (IsVariableOf p u) (variables b.1)
  pub symbols : AllByRecursion (IsAmong (symbols_of p u)) (symbols b.1)

abbrev pub SolutionsAreOfTerms : Type 0
SolutionsAreOfTerms =
    (relation : Relation) (p u : Term) (solution : Solution)
    → IsCanonicalFor relation p u solution
    → AllByRecursion (IsBindingOf p u) solution

-- that of two atoms has no predicate
abbrev pub HasFunctionsAlone : Solution → Type 0
HasFunctionsAlone solution =
    AllByRecursion (λ b. AllByRecursion (λ (s : Symbol). s.side ≡ Function) (symbols b.1)) solution

abbrev pub PredicatesStayOut : Type 0
PredicatesStayOut =
    (relation : Relation) (p u : Term) (solution : Solution)
    → IsSoundAtom p
    → IsSoundAtom u
    → IsCanonicalFor relation p u solution
    → HasFunctionsAlone solution

-- so its numbers don't depend on the sign
abbrev pub SignsStayOut : Type 0
SignsStayOut =
    (number : Symbol → ℕ) (variable : Variable → cells.Variable) (positive : Bool)
    (solution : Solution)
    → HasFunctionsAlone solution
    → list_by (signed positive number) variable solution ≡ list_by number variable solution

-- So bindings of atoms stand for a solution with numbers that have no sign.
abbrev pub AtomsAreAnswered : Type 0
AtomsAreAnswered =
    (relation : Relation) (p u : Term) (number : Symbol → ℕ) (variable : Variable → cells.Variable)
    (positive : Bool) (answer : Option (List Binding))
    → IsSoundAtom p
    → IsSoundAtom u
    → AnswersToTexts relation p u (signed positive number) variable answer
    → AnswersToTexts relation p u number variable answer

-- each right side has at most so many cells
abbrev pub AreNoLonger : ℕ → List Binding → Type 0
AreNoLonger n = AllByRecursion (λ b. length b.value ≤ n)
