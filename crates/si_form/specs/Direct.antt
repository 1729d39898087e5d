-- Bindings from which the canonical list can be read off.
use Rattle.std.specs.Prelude.{◌≡◌, ◌≢◌, ℕ, ◌+◌, ◌≤◌, ◌⊎◌, List, [], ◌∷◌, length, map, slice_index_or as get_or, Option, None, Some}
use Rattle.std.specs.List.{AllByRecursion}
use Rattle.std.specs.Borrow.{Bor}
use Rattle.si_defs.specs.Terms as terms
use Rattle.si_flat.specs.declared.Cell.{Cell}
use Rattle.si_flat.specs.declared.Cell.TheVariants as cell
use Rattle.si_flat.specs.Cells.{Variable, query, entry, ind, Term, variable_cell}
use Rattle.si_trail.specs.Trails.{value_at}
use Rattle.si_unify.specs.declared.slots.Slots.{Slots}
use Rattle.si_unify.specs.Solving.{Pairs, variable_of, IsBinding, IsPieceOf}
use Rattle.si_unify.specs.Spots.{cell_slot, CellIsUnbound}
use Rattle.si_form.specs.declared.direct.TheConstants.{MOST_BINDINGS, MOST_CELLS}
use Rattle.si_form.specs.Folding.{leader}
use Rattle.si_form.specs.Unifying.{IsGeneral, HasGeneral}

-- how many cells the values have together
abbrev pub cell_count : Pairs → ℕ
cell_count [] = 0
cell_count (pair ∷ pairs) = length pair.1.now + cell_count pairs

-- there are few bindings, and their values have few cells
pub record AreSmall (pairs : Pairs) : Type 0 where
  pub few : length pairs ≤ MOST_BINDINGS
  pub short : cell_count pairs ≤ MOST_CELLS

-- the cells are no slice of the value of another slot
abbrev pub StandsApart : Pairs → ℕ → List Cell → Type 0
StandsApart pairs slot cells =
    AllByRecursion (λ other. other.0 ≢ slot → IsPieceOf other.1.now cells → ⊥) pairs

-- the slot of the variable that the cells are; None where they are an application
abbrev pub head_slot : Slots → List Cell → Option ℕ
head_slot slots cells = cell_slot slots (get_or cells 0 (cell.App 0 0 0))

-- no bound variable stands in the value; and an application stands in no other value
pub record IsDirect (slots : Slots) (pairs : Pairs) (pair : ℕ × Bor (List Cell)) : Type 0 where
  pub unbound : AllByRecursion (CellIsUnbound slots pairs) pair.1.now
  pub apart : head_slot slots pair.1.now ≡ None → StandsApart pairs pair.0 pair.1.now

abbrev pub AreDirect : Slots → Pairs → Type 0
AreDirect slots pairs = AllByRecursion (IsDirect slots pairs) pairs

-- no value is a variable
abbrev pub AreApplied : Slots → Pairs → Type 0
AreApplied slots pairs = AllByRecursion (λ pair. head_slot slots pair.1.now ≡ None) pairs

-- what is asked of bindings from which the list is read off
pub record CanBeReadOff (slots : Slots) (pairs : Pairs) : Type 0 where
  pub none : slots.inds ≡ 0
  pub bindings : AllByRecursion (IsBinding slots) pairs
  pub direct : AreDirect slots pairs
  pub general : HasGeneral slots pairs

-- ---- variables that become the same
-- an unbound slot, and one that is it, or is bound to its variable
abbrev pub BecomesThat : Slots → Pairs → ℕ → ℕ → Type 0
BecomesThat slots pairs slot k =
    (k ≡ slot)
    ⊎ ((v : Bor (List Cell)) × (value_at pairs k ≡ Some v) × (head_slot slots v.now ≡ Some slot))

-- the first such slot, as far as these pairs tell
pub record IsFirstAmong (slots : Slots) (pairs some : Pairs) (slot first : ℕ) : Type 0 where
  pub becomes : BecomesThat slots pairs slot first
  pub own : first ≤ slot
  pub others : AllByRecursion (λ pair. head_slot slots pair.1.now ≡ Some slot → first ≤ pair.0) some

abbrev pub IsFirst : Slots → Pairs → ℕ → ℕ → Type 0
IsFirst slots pairs = IsFirstAmong slots pairs pairs

abbrev pub led_variable : Slots → Option ℕ → Variable → Variable
led_variable slots None x = x
led_variable slots (Some w) x = variable_of slots w

module _ (slots : Slots) (f : Variable → Term) where
  abbrev pub leading : Variable → Variable
  leading x = led_variable slots (leader slots f (terms.var x)) x

  -- a variable's cell is replaced by that of the variable that leads it
  abbrev pub renamed : Cell → Cell
  renamed (cell.App s arity len) = cell.App s arity len
  renamed (cell.Query n) = variable_cell (leading (query n))
  renamed (cell.Entry n) = variable_cell (leading (entry n))
  renamed (cell.Ind n) = variable_cell (leading (ind n))

abbrev pub AreRenamed : Slots → Pairs → List Cell → List Cell → Type 0
AreRenamed slots pairs cells new =
    (f : Variable → Term) → IsGeneral slots pairs f → new ≡ map (renamed slots f) cells
