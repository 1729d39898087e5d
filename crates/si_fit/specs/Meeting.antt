-- What is known of two terms that are to be made equal, where no search is made.
use Rattle.std.specs.Borrow.{Bor}
use Rattle.std.specs.Prelude.{◌≡◌, ℕ, ◌↔◌, Bool, true, false, IsTrue, List, [], ◌∷◌, get_or}
use Rattle.si_defs.specs.Terms as terms
use Rattle.si_flat.specs.declared.Cell.{Cell}
use Rattle.si_flat.specs.declared.Cell.TheVariants as cell
use Rattle.si_flat.specs.Cells.{Variable, Term, variable_cell}
use Rattle.si_trail.specs.Trails.{Trail}
use Rattle.si_unify.specs.declared.slots.Slots.{Slots}
use Rattle.si_unify.specs.Solving.{Pairs, slot_of, variable_of, is_frozen, IsInRange, Equalizes, IsSolvedBy}
use Rattle.si_unify.specs.Symbols.{same_symbol}
use Rattle.si_fit.specs.Fitting.{StaysSolvable, StayWithin}
use Rattle.si_fit.specs.declared.meeting.Met.{Met}
use Rattle.si_fit.specs.declared.meeting.Met.TheVariants.{Equal, Clash, Unknown}

-- ---- cells
-- the first one, and any where there is none
abbrev pub first_cell_of : List Cell → Cell
first_cell_of cells = get_or cells 0 (cell.App 0 0 0)

-- the two don't begin with the same symbol
abbrev pub HaveNoSameSymbol : List Cell → List Cell → Type 0
HaveNoSameSymbol left right = IsTrue (same_symbol (first_cell_of left) (first_cell_of right)) → ⊥

-- the one is an indicator, or the other is of the query
abbrev pub is_newer : Cell → Cell → Bool
is_newer (cell.Ind m) other = true
is_newer one (cell.Query n) = true
is_newer one other = false

-- ---- variables
-- the slot of a variable that isn't frozen
pub record IsOpenSlot (slots : Slots) (slot : ℕ) : Type 0 where
  pub range : IsInRange slots (variable_of slots slot)
  pub slot_is : slot_of slots (variable_of slots slot) ≡ slot
  pub unfrozen : is_frozen slots (variable_of slots slot) ≡ false

-- its cell
abbrev pub slot_cells : Slots → ℕ → List Cell
slot_cells slots slot = variable_cell (variable_of slots slot) ∷ []

-- ---- outcomes
-- `Equal`: the new list is solved by what solves the old one and makes the two equal. `Clash`:
-- nothing does.
abbrev pub HasMet : Slots → Pairs → Pairs → List Cell → List Cell → Met → Type 0
HasMet slots old new left right Equal =
    (f : Variable → Term)
    → IsSolvedBy slots new f ↔ (IsSolvedBy slots old f × Equalizes f left right)
HasMet slots old new left right Clash =
    (f : Variable → Term) → IsSolvedBy slots old f → Equalizes f left right → ⊥
HasMet slots old new left right Unknown = Unit {0}

-- The outcome of making two terms equal, and what it leaves of the trail: more may be bound, the
-- solver may go on from there, and no new value is longer than the longest of the old values and
-- the two terms.
pub record HasWalked (slots : Slots) (old new : Trail (Bor (List Cell))) (left right : List Cell)
    (met : Met) : Type 0 where
  pub outcome : HasMet slots old.pairs new.pairs left right met
  pub trail : StaysSolvable slots old new
  pub within : StayWithin old.pairs new.pairs left right

-- the map leaves frozen variables as they are
abbrev pub LeavesFrozen : Slots → (Variable → Term) → Type 0
LeavesFrozen slots f = (x : Variable) → is_frozen slots x ≡ true → f x ≡ terms.var x
