-- What the code reads of right sides.
use Rattle.std.specs.Prelude.{ℕ, ◌+◌, cond, ◌==◌, min, max, List, [], ◌∷◌, Option, None, Some}
use Rattle.si_flat.specs.declared.Cell.{Cell}
use Rattle.si_flat.specs.declared.Cell.TheVariants as cell
use Rattle.si_flat.specs.Rows.{CellPair}
use Rattle.si_tree.specs.declared.node.Head.{Head}
use Rattle.si_tree.specs.declared.node.Head.TheVariants.{Sym, Var}

-- ---- heads
abbrev pub cell_head : Cell → Option Head
cell_head (cell.App s arity n) = Some (Sym s arity)
cell_head (cell.Entry n) = Some (Var n)
cell_head (cell.Query n) = None
cell_head (cell.Ind n) = None

abbrev pub first_head : List Cell → Option Head
first_head [] = None
first_head (c ∷ cells) = cell_head c

-- that of the right side of this indicator
abbrev pub head_in : List CellPair → ℕ → Option Head
head_in [] n = None
head_in (b ∷ bs) n = cond (b.0 == n) (first_head b.1) (head_in bs n)

-- ---- variables
-- the least number above that of a variable of an entry, if there is one of 32 bits
abbrev pub beyond : Cell → ℕ
beyond (cell.Entry n) = min (n + 1) 4294967295
beyond _ = 0

abbrev pub beyond_all : List Cell → ℕ
beyond_all [] = 0
beyond_all (c ∷ cells) = max (beyond c) (beyond_all cells)

abbrev pub beyond_rights : List CellPair → ℕ
beyond_rights [] = 0
beyond_rights (b ∷ bs) = max (beyond_all b.1) (beyond_rights bs)
