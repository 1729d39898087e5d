-- Whether a variable occurs in a term once the bindings are put in.
use Rattle.std.specs.Prelude.{◌≡◌, ℕ, zero, suc, ◌≤◌, ◌==◌, ◌||◌, Bool, false, List, [], ◌∷◌, Option, None, Some}
use Rattle.std.specs.List.{AllByRecursion}
use Rattle.std.specs.Borrow.{Bor}
use Rattle.si_defs.specs.Terms as terms
use Rattle.si_flat.specs.declared.Cell.{Cell}
use Rattle.si_flat.specs.declared.Cell.TheVariants as cell
use Rattle.si_flat.specs.Cells.{Variable, query, entry, ind, Term}
use Rattle.si_trail.specs.Trails.{value_at}
use Rattle.si_unify.specs.declared.slots.Slots.{Slots}
use Rattle.si_unify.specs.Solving.{Pairs, variable_of, IsSolvedBy}
use Rattle.si_unify.specs.Spots.{cell_slot, free_slot}
use Rattle.si_fit.specs.declared.occurring.Occurrence.{Occurrence}
use Rattle.si_fit.specs.declared.occurring.Occurrence.TheVariants.{Absent, Present, Unknown}

-- ---- from slot to slot, by the variables of the values
abbrev pub slot_leads : (ℕ → Bool) → Option ℕ → Bool
slot_leads leads None = false
slot_leads leads (Some slot) = leads slot

abbrev pub some_leads : (ℕ → Bool) → Slots → List Cell → Bool
some_leads leads slots [] = false
some_leads leads slots (c ∷ cells) =
    slot_leads leads (cell_slot slots c) || some_leads leads slots cells

abbrev pub value_leads : (ℕ → Bool) → Slots → Option (Bor (List Cell)) → Bool
value_leads leads slots None = false
value_leads leads slots (Some v) = some_leads leads slots v.now

-- in no more than so many steps
abbrev pub leads_to : Slots → Pairs → ℕ → ℕ → ℕ → Bool
leads_to slots pairs target zero slot = slot == target
leads_to slots pairs target (suc n) slot =
    slot == target || value_leads (leads_to slots pairs target n) slots (value_at pairs slot)

-- ---- the slot isn't come to
abbrev pub AvoidsCell : Slots → Pairs → ℕ → Cell → Type 0
AvoidsCell slots pairs target c =
    (n : ℕ) → slot_leads (leads_to slots pairs target n) (cell_slot slots c) ≡ false

abbrev pub Avoids : Slots → Pairs → ℕ → List Cell → Type 0
Avoids slots pairs target = AllByRecursion (AvoidsCell slots pairs target)

-- ---- at a glance
-- the slot is unbound, and isn't this one
abbrev pub IsOtherUnbound : Pairs → ℕ → Option ℕ → Type 0
IsOtherUnbound pairs slot None = Unit {0}
IsOtherUnbound pairs slot (Some other) = (other ≡ slot → ⊥) × (value_at pairs other ≡ None)

-- no variable that is bound or has this slot, but for frozen ones
abbrev pub IsFreeFor : Slots → Pairs → ℕ → Cell → Type 0
IsFreeFor slots pairs slot c = IsOtherUnbound pairs slot (free_slot slots c)

-- ---- each solution makes the slot's variable no larger than what it is found in
abbrev pub image_size : (Variable → Term) → Cell → ℕ
image_size f (cell.App s a n) = 0
image_size f (cell.Query n) = terms.size (f (query n))
image_size f (cell.Entry n) = terms.size (f (entry n))
image_size f (cell.Ind n) = terms.size (f (ind n))

abbrev pub OccursInCell : Slots → Pairs → ℕ → Cell → Type 0
OccursInCell slots pairs target c =
    (f : Variable → Term) → IsSolvedBy slots pairs f
    → terms.size (f (variable_of slots target)) ≤ image_size f c

-- nor larger than the largest image of a variable of the term
abbrev pub OccursIn : Slots → Pairs → ℕ → List Cell → Type 0
OccursIn slots pairs target cells =
    (f : Variable → Term) (n : ℕ) → IsSolvedBy slots pairs f
    → AllByRecursion (λ c. image_size f c ≤ n) cells
    → terms.size (f (variable_of slots target)) ≤ n

-- ---- outcomes
abbrev pub HasSearchedCell : Slots → Pairs → ℕ → Cell → Occurrence → Type 0
HasSearchedCell slots pairs target c Absent = AvoidsCell slots pairs target c
HasSearchedCell slots pairs target c Present = OccursInCell slots pairs target c
HasSearchedCell slots pairs target c Unknown = Unit {0}

abbrev pub HasSearched : Slots → Pairs → ℕ → List Cell → Occurrence → Type 0
HasSearched slots pairs target cells Absent = Avoids slots pairs target cells
HasSearched slots pairs target cells Present = OccursIn slots pairs target cells
HasSearched slots pairs target cells Unknown = Unit {0}
