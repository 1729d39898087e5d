-- What solving two terms answered.
use Rattle.std.specs.Prelude.{◌≡◌, ℕ, ◌+◌, true, false, List, [], length, Option, Some, None}
use Rattle.si_flat.specs.declared.Cell.{Cell}
use Rattle.si_flat.specs.Cells.{IsWhole}
use Rattle.si_unify.specs.declared.slots.Slots.{Slots}
use Rattle.si_unify.specs.Solving.{Pairs, AreInRange, HaveCommon, HasSolved}
use Rattle.si_measure.specs.Systems.{equations_of, AreEquationSides}
use Rattle.si_measure.specs.declared.solving.Measured.{Measured}
use Rattle.si_measure.specs.declared.measurement.Shape.{Shape}

-- so many variables of the query, and as many of the entry
abbrev pub slots_for : ℕ → Slots
slots_for n =
    record { query = n; entry = n; inds = 0; freeze_query = false; freeze_entry = false }

-- each variable has a slot
pub record HaveSlots (slots : Slots) (left right : List Cell) : Type 0 where
  pub left_range : AreInRange slots left
  pub right_range : AreInRange slots right

-- so many bindings solve the two terms
pub record AreSolvedBy (slots : Slots) (left right : List Cell) (n : ℕ) : Type 0 where
  pub pairs : Pairs
  pub solved : HasSolved slots [] pairs left right true
  pub count : n ≡ length pairs

-- the number of bindings of a solution; none where there is none, or a variable has no slot
abbrev pub Tells : Slots → List Cell → List Cell → Option ℕ → Type 0
Tells slots left right (Some n) = AreSolvedBy slots left right n
Tells slots left right None = HaveSlots slots left right → HaveCommon slots [] left right → ⊥

-- the numbers of cells of two terms of so many variables each, and the answer to them
pub record SolvesCells (n : ℕ) (left right : List Cell) (measured : Measured) : Type 0 where
  pub left_whole : IsWhole left
  pub right_whole : IsWhole right
  pub left_cells : measured.left ≡ length left
  pub right_cells : measured.right ≡ length right
  pub tells : Tells (slots_for n) left right measured.bindings

-- the two sides of the equations of a shape were solved; its variables have the numbers 0 to n
pub record SolvesShape (shape : Shape) (n : ℕ) (measured : Measured) : Type 0 where
  pub left : List Cell
  pub right : List Cell
  pub sides : AreEquationSides (equations_of shape n) left right
  pub slots : HaveSlots (slots_for (n + 1)) left right
  pub solves : SolvesCells (n + 1) left right measured

-- two terms were solved
pub record SolvesTerms (measured : Measured) : Type 0 where
  pub variables : ℕ
  pub left : List Cell
  pub right : List Cell
  pub solves : SolvesCells variables left right measured
