-- The heads of terms, told by their first cells.
use Rattle.std.specs.Prelude.{◌≡◌, ◌==◌, ◌&&◌, Bool, false}
use Rattle.si_flat.specs.declared.Cell.{Cell}
use Rattle.si_flat.specs.declared.Cell.TheVariants as cell

abbrev pub same_symbol : Cell → Cell → Bool
same_symbol (cell.App s a m) (cell.App r b n) = s == r && a == b
same_symbol _ _ = false

abbrev pub IsSameVariable : Cell → Cell → Type 0
IsSameVariable (cell.Query m) (cell.Query n) = m ≡ n
IsSameVariable (cell.Entry m) (cell.Entry n) = m ≡ n
IsSameVariable (cell.Ind m) (cell.Ind n) = m ≡ n
IsSameVariable _ _ = ⊥
