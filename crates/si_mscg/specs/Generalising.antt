-- What `generalise` is asked and answers, of bindings in cells.
use Rattle.std.specs.Prelude.{◌≡◌, ℕ, zero, suc, ◌+◌, Bool, false, ◌&&◌, ◌==◌, List, [], ◌∷◌, ◌++◌, drop}
use Rattle.si_defs.specs.Terms as terms
use Rattle.si_flat.specs.declared.Cell.{Cell}
use Rattle.si_flat.specs.declared.Cell.TheVariants as cell
use Rattle.si_flat.specs.declared.bindings.Split.{Split}
use Rattle.si_flat.specs.Cells.{Term, Terms, variable_cell, cells_of_all, IsSound}
use Rattle.si_flat.specs.Rows.{CellPair, first_span}
use Rattle.si_legal.specs.Bindings.{Binding, StandForBindings}
use Rattle.si_legal.specs.Generalizations.{MaySplit, Splits}

-- The two lists stand for bindings that may be split, with fresh indicators from this number on.
abbrev pub MayGeneralise : ℕ → List CellPair → List CellPair → Type 0
MayGeneralise next node new =
    (ns : List Binding) × (ms : List Binding) × StandForBindings node ns × StandForBindings new ms
    × MaySplit next ns ms

-- The parts stand for those into which the bindings of the two lists are split.
abbrev pub Generalises : ℕ → List CellPair → List CellPair → Split → Type 0
Generalises next node new split =
    (ns ms : List Binding) → StandForBindings node ns → StandForBindings new ms
    → (common : List Binding) × (rest_node : List Binding) × (rest_new : List Binding)
    × StandForBindings split.common common × StandForBindings split.rest_node rest_node
    × StandForBindings split.rest_new rest_new × Splits next ns ms common rest_node rest_new

-- ---- heads
-- whether the terms that begin with these cells have the same head
abbrev pub same_head_cell : Cell → Cell → Bool
same_head_cell (cell.App s arity n) (cell.App r arity' n') = (s == r) && (arity == arity')
same_head_cell (cell.Query m) (cell.Query n) = m == n
same_head_cell (cell.Entry m) (cell.Entry n) = m == n
same_head_cell (cell.Ind m) (cell.Ind n) = m == n
same_head_cell _ _ = false

-- ---- drafts: the cells of a term, but that each symbol has 1 for its number of cells
abbrev mutual
  pub draft_of : Term → List Cell
  draft_of (terms.var x) = variable_cell x ∷ []
  draft_of (terms.app s ts) = cell.App s.number s.arity 1 ∷ draft_of_all ts

  pub draft_of_all : Terms → List Cell
  draft_of_all terms.none = []
  draft_of_all (terms.more t ts) = draft_of t ++ draft_of_all ts

abbrev pub spanless : Cell → Cell
spanless (cell.App s arity n) = cell.App s arity 1
spanless c = c

-- they are those of one term
pub record IsDraft (cells : List Cell) : Type 0 where
  pub term : Term
  pub sound : IsSound term
  pub draft : cells ≡ draft_of term

-- the cells begin with those of so many terms
pub record BeginsWithTerms (n : ℕ) (cells : List Cell) : Type 0 where
  pub front : Terms
  pub back : List Cell
  pub counted : terms.count front ≡ n
  pub parts : cells ≡ cells_of_all front ++ back

-- the cells of so many terms
abbrev pub spans : ℕ → List Cell → ℕ
spans zero cells = 0
spans (suc n) cells = first_span cells + spans n (drop (first_span cells) cells)

-- a cell with its number of cells, before those of its arguments
abbrev pub with_span : Cell → List Cell → Cell
with_span (cell.App s arity n) cells = cell.App s arity (1 + spans arity cells)
with_span c cells = c

abbrev pub respanned : List Cell → List Cell
respanned [] = []
respanned (c ∷ cells) = with_span c (respanned cells) ∷ respanned cells

-- after a symbol stand as many terms as it has arguments
abbrev pub HasArguments : Cell → List Cell → Type 0
HasArguments (cell.App s arity n) cells = BeginsWithTerms arity cells
HasArguments c cells = Unit {0}
