-- Bindings in cells that are made to fit a list of solved ones.
use Rattle.std.specs.Borrow.{Bor}
use Rattle.std.specs.Prelude.{◌≡◌, ℕ, ◌≤◌, ◌↔◌, Bool, true, false, List, [], ◌∷◌, length}
use Rattle.std.specs.List.{AllByRecursion}
use Rattle.si_defs.specs.Substitutions.{Grows, Substitution, image}
use Rattle.si_trail.specs.Trails.{Trail}
use Rattle.si_flat.specs.declared.Cell.{Cell}
use Rattle.si_flat.specs.declared.Cell.TheVariants as cell
use Rattle.si_flat.specs.Cells.{Symbol, Variable, same_variable, IsWhole, Term}
use Rattle.si_flat.specs.Rows.{CellPair}
use Rattle.si_unify.specs.declared.slots.Slots.{Slots}
use Rattle.si_unify.specs.Rooms.{AreNoLongerThan}
use Rattle.si_unify.specs.Solving.{Pairs, CellIsInRange, AreInRange, Equalizes, IsSolution, AllowsSolving}

-- two terms that may be walked over beside each other, following what their variables are bound to
pub record AreWalkable (slots : Slots) (trail : Trail (Bor (List Cell)))
    (first second : List Cell) : Type 0 where
  pub left : IsWhole first
  pub right : IsWhole second
  pub left_range : AreInRange slots first
  pub right_range : AreInRange slots second
  pub ready : AllowsSolving slots trail.pairs trail.slots

-- More may be bound, and the solver may go on from there.
pub record StaysSolvable (slots : Slots) (old new : Trail (Bor (List Cell))) : Type 0 where
  pub grows : Grows old.pairs new.pairs
  pub ready : AllowsSolving slots new.pairs new.slots
  pub count : new.slots ≡ old.slots

-- no new value has more than n cells where no old one has, and neither term
abbrev pub StayWithin : Pairs → Pairs → List Cell → List Cell → Type 0
StayWithin old new first second =
    (n : ℕ) → AreNoLongerThan n old → length first ≤ n → length second ≤ n → AreNoLongerThan n new

abbrev pub AreRowsInRange : Slots → List CellPair → Type 0
AreRowsInRange slots rows =
    AllByRecursion (λ r. CellIsInRange slots (cell.Ind r.0) × AreInRange slots r.1) rows

-- no right side has more than n cells
abbrev pub AreRowsNoLongerThan : ℕ → List CellPair → Type 0
AreRowsNoLongerThan n = AllByRecursion (λ r. length r.1 ≤ n)

-- f makes each left side equal to its right side
abbrev pub EqualizesRows : (Variable → Term) → List CellPair → Type 0
EqualizesRows f rows = AllByRecursion (λ r. Equalizes f (cell.Ind r.0 ∷ []) r.1) rows

abbrev pub HasSolution : Slots → Pairs → Type 0
HasSolution slots pairs = (s : Substitution Symbol Variable) × IsSolution slots pairs s

-- `true`: the solutions of the new list are those of the old one that solve the bindings too, and
-- there is one. `false`: no solution of the old one does.
abbrev pub HasFitted : Slots → Pairs → Pairs → List CellPair → Bool → Type 0
HasFitted slots old new rows true =
    HasSolution slots new
    × ((s : Substitution Symbol Variable) → IsSolution slots new s
    ↔ (IsSolution slots old s × EqualizesRows (image same_variable s) rows))
HasFitted slots old new rows false =
    (s : Substitution Symbol Variable)
    → IsSolution slots old s → EqualizesRows (image same_variable s) rows → ⊥
