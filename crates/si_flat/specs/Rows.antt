-- Bindings of indicators as one row of cells: the cell of each, and then its right side.
use Rattle.std.specs.Prelude.{◌≡◌, ℕ, zero, suc, List, [], ◌∷◌, ◌++◌, length, take, drop, map, get_or}
use Rattle.std.specs.List.{AllByRecursion}
use Rattle.si_flat.specs.declared.Cell.{Cell}
use Rattle.si_flat.specs.declared.Cell.TheVariants as cell
use Rattle.si_flat.specs.Cells.{IsWhole, span}

-- an indicator's number, its left side, and the cells of its right side
abbrev pub CellPair : Type 0
CellPair = ℕ × List Cell

-- the left sides of bindings in any form
abbrev pub left_sides : {R : Type 0} → List (ℕ × R) → List ℕ
left_sides bs = map (λ b. b.0) bs

abbrev pub right_sides : {R : Type 0} → List (ℕ × R) → List R
right_sides bs = map (λ b. b.1) bs

-- each left side as a term of one cell
abbrev pub left_rows : List CellPair → List (List Cell)
left_rows bs = map (λ b. cell.Ind b.0 ∷ []) bs

abbrev pub pair_cells : CellPair → List Cell
pair_cells b = cell.Ind b.0 ∷ b.1

abbrev pub row_of : List CellPair → List Cell
row_of [] = []
row_of (b ∷ bs) = pair_cells b ++ row_of bs

-- each right side is one term
abbrev pub AreWhole : List CellPair → Type 0
AreWhole bs = AllByRecursion (λ b. IsWhole b.1) bs

-- ---- a row read
abbrev pub number_at : Cell → ℕ
number_at (cell.Ind n) = n
number_at _ = 0

abbrev pub first_span : List Cell → ℕ
first_span cells = span (get_or cells 0 (cell.Query 0))

-- so many pairs of the row at most
abbrev pub pairs_in : ℕ → List Cell → List CellPair
pairs_in zero cells = []
pairs_in (suc most) [] = []
pairs_in (suc most) (c ∷ cells) =
    (number_at c, take (first_span cells) cells) ∷ pairs_in most (drop (first_span cells) cells)

abbrev pub pairs_of : List Cell → List CellPair
pairs_of cells = pairs_in (length cells) cells

-- the cells are the row of some bindings
pub record IsRow (cells : List Cell) : Type 0 where
  pub pairs : List CellPair
  pub whole : AreWhole pairs
  pub row : cells ≡ row_of pairs

-- ---- one pair
abbrev pub pair_of : List Cell → CellPair
pair_of [] = (0, [])
pair_of (c ∷ cells) = (number_at c, cells)

pub record IsPair (cells : List Cell) : Type 0 where
  pub left : ℕ
  pub right : List Cell
  pub whole : IsWhole right
  pub cells_are : cells ≡ cell.Ind left ∷ right
