-- Cells whose indicators get other numbers.
use Rattle.std.specs.Prelude.{ℕ, suc, ◌<◌, List, [], ◌∷◌, ◌++◌, map, set, get_or}
use Rattle.std.specs.List.{AllByRecursion}
use Rattle.si_flat.specs.declared.Cell.{Cell}
use Rattle.si_flat.specs.declared.Cell.TheVariants as cell
use Rattle.si_flat.specs.Rows.{CellPair}

-- the occurrences of indicators among cells
abbrev pub indicators_in : List Cell → List ℕ
indicators_in [] = []
indicators_in (cell.Ind n ∷ cells) = n ∷ indicators_in cells
indicators_in (cell.Query n ∷ cells) = indicators_in cells
indicators_in (cell.Entry n ∷ cells) = indicators_in cells
indicators_in (cell.App s arity len ∷ cells) = indicators_in cells

-- those on all right sides
abbrev pub rights_in : List CellPair → List ℕ
rights_in [] = []
rights_in (b ∷ bs) = indicators_in b.1 ++ rights_in bs

abbrev pub AreBelow : ℕ → List ℕ → Type 0
AreBelow bound ns = AllByRecursion (λ n. n < bound) ns

-- ---- numbers that are noted, each at the place of the old one
abbrev pub noted_number : List ℕ → ℕ → ℕ
noted_number numbers n = get_or numbers n 0

-- these get the next numbers, one after the other
abbrev pub noted : List ℕ → ℕ → List ℕ → List ℕ
noted numbers next [] = numbers
noted numbers next (n ∷ ns) = noted (set numbers n next) (suc next) ns

-- ---- other numbers
abbrev pub renumbered_cell : (ℕ → ℕ) → Cell → Cell
renumbered_cell to (cell.Ind n) = cell.Ind (to n)
renumbered_cell to (cell.Query n) = cell.Query n
renumbered_cell to (cell.Entry n) = cell.Entry n
renumbered_cell to (cell.App s arity len) = cell.App s arity len

abbrev pub renumbered_cells : (ℕ → ℕ) → List Cell → List Cell
renumbered_cells to cells = map (renumbered_cell to) cells

abbrev pub renumbered_pairs : (ℕ → ℕ) → List CellPair → List CellPair
renumbered_pairs to bs = map (λ b. (to b.0, renumbered_cells to b.1)) bs
