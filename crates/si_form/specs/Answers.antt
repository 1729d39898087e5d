-- What the calls answer: the canonical list of a relation, where it holds.
use Rattle.std.specs.Prelude.{◌≡◌, ℕ, List, [], ◌∷◌, Option, None, Some}
use Rattle.si_defs.specs.declared.Relation.{Relation}
use Rattle.si_defs.specs.Relations.{Relates}
use Rattle.si_defs.specs.Solutions.{IsCanonical}
use Rattle.si_defs.specs.Variables as variables
use Rattle.si_flat.specs.declared.Cell.{Cell}
use Rattle.si_flat.specs.Cells.{Variable, same_variable, Term, IsWhole, StandsFor}
use Rattle.si_flat.specs.Flattened.{counted_from, IsNumberedBy}
use Rattle.si_flat.specs.Flattening.{owners_variable}
use Rattle.si_flat.specs.declared.Owner.{Owner}
use Rattle.si_flat.specs.declared.Owner.TheVariants.{Query, Entry}
use Rattle.si_form.specs.declared.solution.Binding.{Binding}

-- ---- numbered variables
-- so many variables of an owner, from a number on
abbrev pub owners_variables : Owner → ℕ → ℕ → List Variable
owners_variables owner k n = counted_from (owners_variable owner) k n

-- the variables of the term are the owner's, numbered in the order of their first occurrence
abbrev pub IsNumbered : Owner → Term → Type 0
IsNumbered owner t = IsNumberedBy (owners_variable owner) t

abbrev pub AreNumbered : Owner → List Cell → Type 0
AreNumbered owner cells = (t : Term) → StandsFor cells t → IsNumbered owner t

-- they are the whole cells of a query and of an entry
pub record AreQueryAndEntry (query_cells entry_cells : List Cell) : Type 0 where
  pub whole_query : IsWhole query_cells
  pub whole_entry : IsWhole entry_cells
  pub query : AreNumbered Query query_cells
  pub entry : AreNumbered Entry entry_cells

-- ---- lists of bindings
pub record StandsForPair (b : Binding) (pair : Variable × Term) : Type 0 where
  pub left : pair.0 ≡ owners_variable b.owner b.slot
  pub right : StandsFor b.value pair.1

abbrev pub StandsForList : List Binding → List (Variable × Term) → Type 0
StandsForList [] [] = Unit {0}
StandsForList [] (pair ∷ pairs) = ⊥
StandsForList (b ∷ bs) [] = ⊥
StandsForList (b ∷ bs) (pair ∷ pairs) = StandsForPair b pair × StandsForList bs pairs

-- the list is canonical, and no other one is
pub record IsTheCanonical (relation : Relation) (q e : Term)
    (list : List (Variable × Term)) : Type 0 where
  pub canonical : IsCanonical same_variable relation q e list
  pub only : (other : List (Variable × Term)) → IsCanonical same_variable relation q e other
      → other ≡ list

-- Where the relation holds, the canonical list is found; else none is, and then only.
abbrev pub AnswersTo : Relation → Term → Term → Option (List Binding) → Type 0
AnswersTo relation q e None = Relates same_variable relation q e → ⊥
AnswersTo relation q e (Some bindings) =
    (list : List (Variable × Term)) × StandsForList bindings list × IsTheCanonical relation q e list

abbrev pub Answers : Relation → List Cell → List Cell → Option (List Binding) → Type 0
Answers relation query_cells entry_cells answer =
    (q e : Term) → StandsFor query_cells q → StandsFor entry_cells e → AnswersTo relation q e answer

-- no two lists are canonical for one query and one entry
abbrev pub HasOneCanonicalList : Relation → Type 0
HasOneCanonicalList relation =
    (q e : Term) (one other : List (Variable × Term))
    → IsCanonical same_variable relation q e one
    → IsCanonical same_variable relation q e other
    → one ≡ other

-- ---- terms with texts
-- no two lists are canonical for one pattern and one entry
abbrev pub HasOneSolution : Relation → Type 0
HasOneSolution relation =
    (p e : variables.Apart) (one other : variables.Solution)
    → IsCanonical variables.same_variable relation p e one
    → IsCanonical variables.same_variable relation p e other
    → one ≡ other

-- where a list is canonical, the relation holds
abbrev pub HasSolutionsOfRelated : Relation → Type 0
HasSolutionsOfRelated relation =
    (p e : variables.Apart) (list : variables.Solution)
    → IsCanonical variables.same_variable relation p e list
    → Relates variables.same_variable relation p e
