-- Frozen variables, and what isn't bound at a glance.
use Rattle.std.proofs.Common.{◌≡◌, ℕ, ◌+◌, ◌<◌, [], ◌∷◌, length, drop, get_or, ◌⊎◌, inl, inr, Bool, true, false, cond, List, sym, refl, ◌∙◌, ap, subst, Option, None, Some}
use Rattle.std.specs.List.{AllByRecursion}
use Rattle.std.specs.Borrow.{Bor}
use Rattle.si_defs.proofs.ListLaws.{all_with}
use Rattle.si_flat.specs.declared.Cell.{Cell}
use Rattle.si_flat.specs.declared.Cell.TheVariants as cell
use Rattle.si_flat.specs.Cells.{Variable, query, entry, ind, variable_cell, IsWhole}
use Rattle.si_flat.proofs.Subterms.{some_cell}
use Rattle.si_trail.specs.Trails.{value_at}
use Rattle.si_unify.specs.declared.slots.Slots.{Slots}
use Rattle.si_unify.specs.Solving.{Pairs, slot_of, variable_of, is_frozen, IsInRange, CellIsInRange, AreInRange, IsBinding}
use Rattle.si_unify.specs.Spots.{free_slot}
use Rattle.si_unify.proofs.Places.{value_holds, in_range-variable, variable_of-slot_of}
use Rattle.si_unify.proofs.Meeting.{slot_of-cell}
use Rattle.si_fit.specs.Meeting.{IsOpenSlot}
use Rattle.si_fit.specs.Occurring.{IsOtherUnbound, IsFreeFor, AvoidsCell, Avoids}
use Rattle.si_fit.proofs.EndLaws.{no_cell}
use Rattle.si_fit.proofs.OccurringLaws.{symbol_avoids, unbound_avoids}

-- a variable is frozen, or its slot is that of its cell
pub frozen_or_free : (slots : Slots) (x : Variable) → (is_frozen slots x ≡ true) ⊎ (free_slot slots (variable_cell x) ≡ Some (slot_of slots x))
frozen_or_free slots (query n) = go slots.freeze_query refl where
  go : (b : Bool) → slots.freeze_query ≡ b → (slots.freeze_query ≡ true) ⊎ (cond slots.freeze_query None (Some n) ≡ Some n)
  go true e = inl e
  go false e = inr (ap (λ b. cond b None (Some n)) e)
frozen_or_free slots (entry n) = go slots.freeze_entry refl where
  go : (b : Bool) → slots.freeze_entry ≡ b → (slots.freeze_entry ≡ true) ⊎ (cond slots.freeze_entry None (Some (slots.query + n)) ≡ Some (slots.query + n))
  go true e = inl e
  go false e = inr (ap (λ b. cond b None (Some (slots.query + n))) e)
frozen_or_free slots (ind n) = inr refl

-- frozen variables are unbound
pub frozen_unbound : (slots : Slots) (pairs : Pairs) (x : Variable) → AllByRecursion (IsBinding slots) pairs → IsInRange slots x → is_frozen slots x ≡ true → value_at pairs (slot_of slots x) ≡ None
frozen_unbound slots pairs x bindings range frozen = go (value_at pairs (slot_of slots x)) refl where
  go : (o : Option (Bor (List Cell))) → value_at pairs (slot_of slots x) ≡ o → value_at pairs (slot_of slots x) ≡ None
  go None e = e
  go (Some v) e =
      let b = value_holds (IsBinding slots) pairs (slot_of slots x) v bindings e in
      let bad : true ≡ false = sym frozen ∙ ap (is_frozen slots) (sym (variable_of-slot_of slots x range)) ∙ b.unfrozen in
      cc

-- ---- no variable of a term is bound or has the slot
module _ (slots : Slots) (pairs : Pairs) (slot : ℕ) (bindings : AllByRecursion (IsBinding slots) pairs) (slot_open : IsOpenSlot slots slot) where
  is_other : (x : Variable) → IsInRange slots x → IsFreeFor slots pairs slot (variable_cell x) → (slot_of slots x ≡ slot → ⊥) × (value_at pairs (slot_of slots x) ≡ None)
  is_other x inside h =
      elim (frozen_or_free slots x) [
        | inl frozen ↦ (
          λ e.
              let bad : true ≡ false = sym frozen ∙ ap (is_frozen slots) (sym (variable_of-slot_of slots x inside) ∙ ap (variable_of slots) e) ∙ slot_open.unfrozen in cc,
          frozen_unbound slots pairs x bindings inside frozen,
        )
        | inr is ↦ subst (IsOtherUnbound pairs slot) is h
      ]

  variable_avoids : (x : Variable) → CellIsInRange slots (variable_cell x) → IsFreeFor slots pairs slot (variable_cell x) → AvoidsCell slots pairs slot (variable_cell x)
  variable_avoids x range h =
      let other = is_other x (in_range-variable slots x range) h in
      unbound_avoids slots pairs slot (variable_cell x) (slot_of slots x) (slot_of-cell slots x) other.0 other.1

  free_cell : (c : Cell) → CellIsInRange slots c → IsFreeFor slots pairs slot c → AvoidsCell slots pairs slot c
  free_cell (cell.App s a n) range h = symbol_avoids slots pairs slot (cell.App s a n) refl
  free_cell (cell.Query n) range h = variable_avoids (query n) range h
  free_cell (cell.Entry n) range h = variable_avoids (entry n) range h
  free_cell (cell.Ind n) range h = variable_avoids (ind n) range h

  pub free_avoids : (cells : List Cell) → AreInRange slots cells → AllByRecursion (IsFreeFor slots pairs slot) cells → Avoids slots pairs slot cells
  free_avoids cells range free = all_with (CellIsInRange slots) (IsFreeFor slots pairs slot) (AvoidsCell slots pairs slot) cells free_cell range free

  -- the first cell was looked at before
  pub rest_avoids : (cells rest : List Cell) → IsWhole cells → AreInRange slots cells → IsFreeFor slots pairs slot (get_or cells 0 no_cell) → rest ≡ drop 1 cells → AllByRecursion (IsFreeFor slots pairs slot) rest → Avoids slots pairs slot cells
  rest_avoids cells rest whole range first is free = free_avoids cells range (all cells (some_cell cells whole) first (subst (AllByRecursion (IsFreeFor slots pairs slot)) is free)) where
    all : (xs : List Cell) → 0 < length xs → IsFreeFor slots pairs slot (get_or xs 0 no_cell) → AllByRecursion (IsFreeFor slots pairs slot) (drop 1 xs) → AllByRecursion (IsFreeFor slots pairs slot) xs
    all [] some h k = tt
    all (x ∷ xs) some h k = (h, k)
