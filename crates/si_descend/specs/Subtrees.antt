-- Whole subtrees that are open: where all indicators that are open at a node stand for different
-- variables that can still be anything.
use Rattle.std.specs.Prelude.{◌≡◌, ℕ, Bool, true, false, List, ◌++◌, map, Option, None, Some, slice_get}
use Rattle.std.specs.List.{AllByRecursion}
use Rattle.std.specs.Borrow.{Bor}
use Rattle.si_defs.specs.Substitutions.{IsAmong, AreDistinct}
use Rattle.si_trail.specs.Trails.{value_at}
use Rattle.si_flat.specs.declared.Cell.{Cell}
use Rattle.si_flat.specs.declared.Cell.TheVariants as cell
use Rattle.si_flat.specs.Cells.{Variable, entry, ind, Term}
use Rattle.si_legal.specs.Trees.{Tree, Path, IsPath}
use Rattle.si_legal.specs.Legal.{IsOpenBelow}
use Rattle.si_unify.specs.declared.slots.Slots.{Slots}
use Rattle.si_unify.specs.Solving.{Pairs, slot_of, variable_of, is_frozen, IsInRange, IsSolvedBy}
use Rattle.si_unify.specs.Spots.{cell_slot}
use Rattle.si_descend.specs.declared.heads.Wanted.{Wanted}

-- ---- ends
-- Each solution gives the indicator what it gives the variable of the slot, which is unbound. The
-- variable isn't frozen, and none of the entry's.
pub record EndsFree (slots : Slots) (pairs : Pairs) (n slot : ℕ) : Type 0 where
  pub variable : Variable
  pub slot_is : slot_of slots variable ≡ slot
  pub range : IsInRange slots variable
  pub no_entry : (m : ℕ) → variable ≡ entry m → ⊥
  pub unfrozen : is_frozen slots variable ≡ false
  pub unbound : value_at pairs slot ≡ None
  pub same : (f : Variable → Term) → IsSolvedBy slots pairs f → f (ind n) ≡ f variable

-- the first of these indicators ends at the first of these slots, and so on; no two of the slots
-- are the same
pub record AreEndsOf (slots : Slots) (pairs : Pairs) (ns ends : List ℕ) : Type 0 where
  pub rows : List (ℕ × ℕ)
  pub indicators_are : map (λ r. r.0) rows ≡ ns
  pub ends_are : map (λ r. r.1) rows ≡ ends
  pub free : AllByRecursion (λ r. EndsFree slots pairs r.0 r.1) rows
  pub distinct : AreDistinct ends

-- the ends of all of these indicators are put after those that were there
abbrev pub AddsEnds : Slots → Pairs → List ℕ → List ℕ → List ℕ → Type 0
AddsEnds slots pairs more old new =
    (ns : List ℕ) → AreEndsOf slots pairs ns old → AreEndsOf slots pairs (ns ++ more) new

-- ---- values of the entry's variables
-- the slot is unbound, and none of the ends
abbrev pub IsClear : Pairs → List ℕ → Option ℕ → Type 0
IsClear pairs ends None = Unit {0}
IsClear pairs ends (Some slot) = (value_at pairs slot ≡ None) × (IsAmong ends slot → ⊥)

-- the value of a variable of the entry has clear slots alone
abbrev pub AreClear : Slots → Pairs → List ℕ → Type 0
AreClear slots pairs ends =
    AllByRecursion
    (λ pair. (m : ℕ) → variable_of slots pair.0 ≡ entry m
    → AllByRecursion (λ c. IsClear pairs ends (cell_slot slots c)) pair.1.now) pairs

-- where the binding with this number is of a variable of the entry, its value has
abbrev pub HasClearValue : Slots → Pairs → List ℕ → ℕ → Type 0
HasClearValue slots pairs ends n =
    (slot m : ℕ) (value : Bor (List Cell)) → slice_get pairs n ≡ Some (slot, value)
    → variable_of slots slot ≡ entry m
    → AllByRecursion (λ c. IsClear pairs ends (cell_slot slots c)) value.now

-- ---- at a node
-- each indicator that is open there is one of these
abbrev pub AreAllOpen : Tree Term → ℕ → List ℕ → Type 0
AreAllOpen tree key ns =
    (path : Path) → IsPath tree (Some key) path → (n : ℕ) → IsOpenBelow path n → IsAmong ns n

-- a term with a symbol at its head is wanted
abbrev pub is_symbol : Cell → Bool
is_symbol (cell.App s a n) = true
is_symbol c = false

abbrev pub wants_symbol : Option Wanted → Bool
wants_symbol None = false
wants_symbol (Some w) = is_symbol w.first
