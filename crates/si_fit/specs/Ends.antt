-- Where a chain of bound variables ends.
use Rattle.std.specs.Prelude.{◌≡◌, ℕ, ◌≤◌, List, get_or, length}
use Rattle.si_defs.specs.Terms as terms
use Rattle.si_flat.specs.declared.Cell.{Cell}
use Rattle.si_flat.specs.declared.Cell.TheVariants as cell
use Rattle.si_flat.specs.Cells.{Variable, Term, StandsFor}
use Rattle.si_unify.specs.declared.slots.Slots.{Slots}
use Rattle.si_unify.specs.Rooms.{AreNoLongerThan}
use Rattle.si_unify.specs.Solving.{Pairs, IsSolvedBy, AreInRange}
use Rattle.si_unify.specs.Spots.{cell_slot, IsUnbound}

-- each solution makes the two terms equal, and the second one is no bound variable
pub record EndsAt (slots : Slots) (pairs : Pairs) (start end : List Cell) : Type 0 where
  pub first : Term
  pub first_stands : StandsFor start first
  pub last : Term
  pub last_stands : StandsFor end last
  pub same : (f : Variable → Term) → IsSolvedBy slots pairs f
      → terms.substitute f first ≡ terms.substitute f last
  pub unbound : IsUnbound pairs (cell_slot slots (get_or end 0 (cell.App 0 0 0)))

-- the chain was followed to its end, a term in range, and no longer than the first or some value
pub record HasFollowed (slots : Slots) (pairs : Pairs) (start end : List Cell) : Type 0 where
  pub ends : EndsAt slots pairs start end
  pub range : AreInRange slots end
  pub within : (n : ℕ) → AreNoLongerThan n pairs → length start ≤ n → length end ≤ n
