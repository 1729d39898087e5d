-- Terms with numbers for their symbols and variables, beside the terms with texts.
use Rattle.std.specs.Prelude.{◌≡◌, ℕ, ◌*◌, Bool, List, [], ◌∷◌, ◌++◌, Option, None, Some, bytes_eq}
use Rattle.std.specs.List.{AllByRecursion}
use Rattle.si_defs.specs.Bytes.{Bytes}
use Rattle.si_defs.specs.Terms.{app, variables, symbols}
use Rattle.si_defs.specs.Symbols.{Symbol}
use Rattle.si_defs.specs.Clauses.{Term, Terms, IsSoundAtom}
use Rattle.si_defs.specs.Substitutions.{IsAmong}
use Rattle.si_defs.specs.declared.Relation.{Relation}
use Rattle.si_defs.specs.Relations.{Relates}
use Rattle.si_defs.specs.Solutions.{IsCanonical}
use Rattle.si_defs.specs.Variables.{Variable, of_pattern, of_entry, same_variable, pattern_term, entry_term, Solution}
use Rattle.si_flat.specs.Cells as cells
use Rattle.si_flat.specs.Numbered.{signed, place_in, numbered}
use Rattle.si_form.specs.declared.solution.Binding.{Binding}
use Rattle.si_form.specs.Answers.{StandsForList, AnswersTo}

-- ---- numbers in place of symbols and variables
-- the terms and lists with these numbers, and with each variable by its place in the list of its
-- side
abbrev pub query_by : (Symbol → ℕ) → List Bytes → Term → cells.Term
query_by number xs p = numbered number (λ x. cells.query (place_in bytes_eq xs x)) p

abbrev pub entry_by : (Symbol → ℕ) → List Bytes → Term → cells.Term
entry_by number ys u = numbered number (λ y. cells.entry (place_in bytes_eq ys y)) u

abbrev pub variable_by : List Bytes → List Bytes → Variable → cells.Variable
variable_by xs ys (of_pattern x) = cells.query (place_in bytes_eq xs x)
variable_by xs ys (of_entry y) = cells.entry (place_in bytes_eq ys y)

abbrev pub list_by : (Symbol → ℕ) → (Variable → cells.Variable) → Solution
    → List (cells.Variable × cells.Term)
list_by number variable [] = []
list_by number variable (b ∷ bs) = (variable b.0, numbered number variable b.1)
    ∷ list_by number variable bs

-- the symbols of the two terms, and their variables
abbrev pub symbols_of : Term → Term → List Symbol
symbols_of p u = symbols p ++ symbols u

abbrev pub IsVariableOf : Term → Term → Variable → Type 0
IsVariableOf p u (of_pattern x) = IsAmong (variables p) x
IsVariableOf p u (of_entry y) = IsAmong (variables u) y

-- Of these symbols no two have one number, and all numbers are even.
pub record TellsApart (number : Symbol → ℕ) (known : List Symbol) : Type 0 where
  pub one_symbol : (s r : Symbol) → IsAmong known s → IsAmong known r → number s ≡ number r → s ≡ r
  pub even : (s : Symbol) → IsAmong known s → (half : ℕ) × (number s ≡ 2 * half)

-- the numbers are for the symbols of the two terms, and the lists have their variables
pub record IsFor (p u : Term) (number : Symbol → ℕ) (xs ys : List Bytes) : Type 0 where
  pub symbols : TellsApart number (symbols_of p u)
  pub pattern_variables : AllByRecursion (IsAmong xs) (variables p)
  pub entry_variables : AllByRecursion (IsAmong ys) (variables u)

-- ---- relations and answers
abbrev pub TextsRelate : Relation → Term → Term → Type 0
TextsRelate relation p u = Relates same_variable relation (pattern_term p) (entry_term u)

abbrev pub NumbersRelate : Relation → Term → Term → (Symbol → ℕ) → List Bytes → List Bytes → Type 0
NumbersRelate relation p u number xs ys =
    Relates cells.same_variable relation (query_by number xs p) (entry_by number ys u)

-- terms with texts stand in a relation exactly where those with numbers do
abbrev pub RelationsAreKept : Type 0
RelationsAreKept =
    (relation : Relation) (p u : Term) (number : Symbol → ℕ) (xs ys : List Bytes) (positive : Bool)
    → IsFor p u number xs ys
    → (TextsRelate relation p u → NumbersRelate relation p u (signed positive number) xs ys)
    × (NumbersRelate relation p u (signed positive number) xs ys → TextsRelate relation p u)

-- it doesn't matter in which lists the variables have their places
abbrev pub PlacesAreFree : Type 0
PlacesAreFree =
    (relation : Relation) (p u : Term) (number : Symbol → ℕ) (xs ys xs' ys' : List Bytes)
    (positive : Bool)
    → IsFor p u number xs ys
    → IsFor p u number xs' ys'
    → NumbersRelate relation p u (signed positive number) xs ys
    → NumbersRelate relation p u (signed positive number) xs' ys'

abbrev pub IsCanonicalFor : Relation → Term → Term → Solution → Type 0
IsCanonicalFor relation p u solution =
    IsCanonical same_variable relation (pattern_term p) (entry_term u) solution

-- the terms stand in the relation, and the bindings stand for a canonical list of theirs
pub record StandForSolution (relation : Relation) (p u : Term) (number : Symbol → ℕ)
    (variable : Variable → cells.Variable) (bindings : List Binding) : Type 0 where
  pub relates : TextsRelate relation p u
  pub solution : Solution
  pub canonical : IsCanonicalFor relation p u solution
  pub stands : StandsForList bindings (list_by number variable solution)

abbrev pub AnswersToTexts : Relation → Term → Term → (Symbol → ℕ) → (Variable → cells.Variable)
    → Option (List Binding) → Type 0
AnswersToTexts relation p u number variable None = TextsRelate relation p u → ⊥
AnswersToTexts relation p u number variable (Some bindings) =
    StandForSolution relation p u number variable bindings

-- what answers to terms with numbers says, it says of the terms with texts
abbrev pub AnswersAreKept : Type 0
AnswersAreKept =
    (relation : Relation) (p u : Term) (number : Symbol → ℕ) (xs ys : List Bytes) (positive : Bool)
    (answer : Option (List Binding))
    → IsFor p u number xs ys
    → AnswersTo relation (query_by (signed positive number) xs p)
    (entry_by (signed positive number) ys u) answer
    → AnswersToTexts relation p u (signed positive number) (variable_by xs ys) answer

-- atoms of literals with different signs are never answered
abbrev pub SignsAreTold : Type 0
SignsAreTold =
    (relation : Relation) (p u : Term) (number : Symbol → ℕ) (xs ys : List Bytes) (one other : Bool)
    (answer : Option (List Binding))
    → IsSoundAtom p
    → IsSoundAtom u
    → TellsApart number (symbols_of p u)
    → (one ≡ other → ⊥)
    → AnswersTo relation (query_by (signed one number) xs p)
    (entry_by (signed other number) ys u) answer
    → answer ≡ None

-- nor are terms whose heads stand on different sides, as an atom and a term inside one
abbrev pub SidesAreTold : Type 0
SidesAreTold =
    (relation : Relation) (s r : Symbol) (ts us : Terms) (number : Symbol → ℕ) (xs ys : List Bytes)
    (one other : Bool) (answer : Option (List Binding))
    → TellsApart number (symbols_of (app s ts) (app r us))
    → (s.side ≡ r.side → ⊥)
    → AnswersTo relation (query_by (signed one number) xs (app s ts))
    (entry_by (signed other number) ys (app r us)) answer
    → answer ≡ None
