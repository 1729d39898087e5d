-- Variables numbered by their first occurrence in some cells.
use Rattle.std.specs.Prelude.{◌≡◌, ℕ, suc, ◌==◌, Bool, List, [], ◌∷◌, ◌++◌, map, Some, slice_get}
use Rattle.si_defs.specs.Terms.{firsts}
use Rattle.si_flat.specs.declared.Cell.{Cell}
use Rattle.si_flat.specs.declared.Cell.TheVariants as cell
use Rattle.si_flat.specs.Numbered.{place_in}

abbrev pub same_number : ℕ → ℕ → Bool
same_number m n = m == n

-- the table leads from each number to its place in the list, counted on from this one
abbrev pub AreAt : List ℕ → ℕ → List ℕ → Type 0
AreAt places k [] = Unit {0}
AreAt places k (n ∷ ns) = (slice_get places n ≡ Some k) × AreAt places (suc k) ns

-- the occurrences of an entry's variables
abbrev pub entry_numbers : List Cell → List ℕ
entry_numbers [] = []
entry_numbers (cell.Entry n ∷ cells) = n ∷ entry_numbers cells
entry_numbers (c ∷ cells) = entry_numbers cells

-- an entry's variable gets its place in the list as its number
abbrev pub cell_by_place : List ℕ → Cell → Cell
cell_by_place met (cell.Entry n) = cell.Entry (place_in same_number met n)
cell_by_place met c = c

-- the same, whatever is met later
abbrev pub IsNumberedIn : List ℕ → Cell → Cell → Type 0
IsNumberedIn met c numbered = (more : List ℕ) → numbered ≡ cell_by_place (met ++ more) c

-- the same cells, but that an entry's variables are numbered from 0 in the order of their first
-- occurrence
abbrev pub numbered_anew : List Cell → List Cell
numbered_anew cells = map (cell_by_place (firsts same_number (entry_numbers cells))) cells
