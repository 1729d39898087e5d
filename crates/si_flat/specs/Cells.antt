-- Terms over numbered symbols and variables, and their cells in preorder.
use Rattle.std.specs.Prelude.{◌≡◌, ℕ, ◌+◌, Bool, false, ◌==◌, List, [], ◌∷◌, ◌++◌}
use Rattle.si_defs.specs.Terms as terms
use Rattle.si_flat.specs.declared.Cell.{Cell}
use Rattle.si_flat.specs.declared.Cell.TheVariants as cell

-- Two symbols are the same where both their numbers and their arities are equal.
pub record Symbol : Type 0 where
  pub number : ℕ
  pub arity : ℕ

-- the variables of a query, those of an entry, and indicators, each by its number
pub data Variable : Type 0 where
  query entry ind : ℕ → Variable

abbrev pub same_variable : Variable → Variable → Bool
same_variable (query m) (query n) = m == n
same_variable (entry m) (entry n) = m == n
same_variable (ind m) (ind n) = m == n
same_variable _ _ = false

abbrev pub Term : Type 0
Term = terms.Term Symbol Variable

abbrev pub Terms : Type 0
Terms = terms.Terms Symbol Variable

-- rows of terms, one after the other
abbrev pub join : Terms → Terms → Terms
join terms.none us = us
join (terms.more t ts) us = terms.more t (join ts us)

abbrev pub variable_cell : Variable → Cell
variable_cell (query n) = cell.Query n
variable_cell (entry n) = cell.Entry n
variable_cell (ind n) = cell.Ind n

-- The cells of a term in preorder. That of a symbol has the number of cells of its subterm, its own
-- included.
abbrev mutual
  pub cells_of : Term → List Cell
  cells_of (terms.var x) = variable_cell x ∷ []
  cells_of (terms.app s ts) = cell.App s.number s.arity (1 + terms.sizes ts) ∷ cells_of_all ts

  pub cells_of_all : Terms → List Cell
  cells_of_all terms.none = []
  cells_of_all (terms.more t ts) = cells_of t ++ cells_of_all ts

-- each symbol has as many arguments as its arity
abbrev mutual
  pub IsSound : Term → Type 0
  IsSound (terms.var x) = Unit {0}
  IsSound (terms.app s ts) = (terms.count ts ≡ s.arity) × AreSound ts

  pub AreSound : Terms → Type 0
  AreSound terms.none = Unit {0}
  AreSound (terms.more t ts) = IsSound t × AreSound ts

-- the cells are exactly those of this term
pub record StandsFor (cells : List Cell) (t : Term) : Type 0 where
  pub cells_are : cells ≡ cells_of t
  pub sound : IsSound t

-- the cells are exactly those of one term
abbrev pub IsWhole : List Cell → Type 0
IsWhole cells = (t : Term) × StandsFor cells t

-- the number of cells of the subterm that begins with this cell
abbrev pub span : Cell → ℕ
span (cell.App sym arity len) = len
span _ = 1
