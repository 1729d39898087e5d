-- Arguments of a term, as they are put together.
use Rattle.std.specs.Prelude.{◌≡◌, ℕ, ◌+◌, List, ◌∷◌, ◌++◌, length}
use Rattle.si_defs.specs.Terms as terms
use Rattle.si_flat.specs.declared.Cell.{Cell}
use Rattle.si_flat.specs.declared.Cell.TheVariants as cell
use Rattle.si_flat.specs.Cells.{Terms, cells_of_all, AreSound}

-- the cells of all arguments, and how many arguments they are
pub record Arguments : Type 0 where
  pub cells : List Cell
  pub count : ℕ

-- they are those of so many terms
pub record AreArguments (cells : List Cell) (count : ℕ) : Type 0 where
  pub row : Terms
  pub cells_are : cells ≡ cells_of_all row
  pub sound : AreSound row
  pub count_is : terms.count row ≡ count

-- one argument more
abbrev pub with_argument : Arguments → List Cell → Arguments
with_argument arguments term =
    record { cells = arguments.cells ++ term; count = arguments.count + 1 }

-- the cells of the term with these arguments
abbrev pub under_symbol : ℕ → Arguments → List Cell
under_symbol number arguments =
    cell.App number arguments.count (1 + length arguments.cells) ∷ arguments.cells
