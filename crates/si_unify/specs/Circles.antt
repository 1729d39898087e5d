-- The search for a circle through bound variables: from slot to slot, by the variables of the
-- values.
use Rattle.std.specs.Prelude.{◌≡◌, ℕ, ◌+◌, ◌<◌, ◌≤◌, ◌*◌, ◌^◌, ◌⊎◌, sum_by, List, [], ◌∷◌, ◌++◌, length, Bool, true, false, Option, None, Some, slice_get}
use Rattle.std.specs.List.{AllByRecursion}
use Rattle.std.specs.Borrow.{Bor}
use Rattle.si_defs.specs.Substitutions.{IsAmong}
use Rattle.si_flat.specs.declared.Cell.{Cell}
use Rattle.si_trail.specs.Trails.{value_at, HasDistinctSlots, IsSlotOf}
use Rattle.si_unify.specs.declared.slots.Slots.{Slots}
use Rattle.si_unify.specs.declared.states.State.{State}
use Rattle.si_unify.specs.declared.states.State.TheVariants.{Open, Done}
use Rattle.si_unify.specs.declared.circles.Visit.{Visit}
use Rattle.si_unify.specs.declared.circles.Visit.TheVariants.{Enter, Leave}
use Rattle.si_unify.specs.Solving.{Pairs, slot_count, IsTriangularBy, IsAcyclic, IsBinding}
use Rattle.si_unify.specs.Spots.{cell_slot}
use Rattle.si_unify.specs.States.{state_weight, new_slots}
use Rattle.si_unify.specs.Rooms.{AreNoLongerThan}

-- the slot, if it is bound
abbrev pub if_value : Option (Bor (List Cell)) → ℕ → Option ℕ
if_value None slot = None
if_value (Some v) slot = Some slot

abbrev pub if_bound : Pairs → Option ℕ → Option ℕ
if_bound pairs None = None
if_bound pairs (Some slot) = if_value (value_at pairs slot) slot

abbrev pub with_slot : Option ℕ → List ℕ → List ℕ
with_slot None rest = rest
with_slot (Some slot) rest = slot ∷ rest

-- the bound slots of these cells, in order
abbrev pub bound_slots : Slots → Pairs → List Cell → List ℕ
bound_slots slots pairs [] = []
bound_slots slots pairs (c ∷ cells) =
    with_slot (if_bound pairs (cell_slot slots c)) (bound_slots slots pairs cells)

-- visits, the next one first
abbrev pub enter_each : List ℕ → List Visit
enter_each [] = []
enter_each (slot ∷ slots) = Enter slot ∷ enter_each slots

-- a list turned round and put before another
abbrev pub pile : List ℕ → List ℕ → List ℕ
pile [] before = before
pile (slot ∷ slots) before = pile slots (slot ∷ before)

-- the bound slots of a slot's value
abbrev pub below_value : Slots → Pairs → Option (Bor (List Cell)) → List ℕ
below_value slots pairs None = []
below_value slots pairs (Some v) = bound_slots slots pairs v.now

abbrev pub slots_below : Slots → Pairs → ℕ → List ℕ
slots_below slots pairs slot = below_value slots pairs (value_at pairs slot)

-- the visits that come up for a slot, the next one first
abbrev pub visits_of : Slots → Pairs → ℕ → List Visit
visits_of slots pairs slot = enter_each (pile (slots_below slots pairs slot) [])

-- the visits that come up for these cells stand before the others
abbrev pub AreEntered : Slots → Pairs → List Cell → List Visit → List Visit → Type 0
AreEntered slots pairs cells old new =
    new ≡ enter_each (pile (bound_slots slots pairs cells) []) ++ old

abbrev pub visit_slot : Visit → ℕ
visit_slot (Enter slot) = slot
visit_slot (Leave slot) = slot

abbrev pub visit_slots : List Visit → List ℕ
visit_slots [] = []
visit_slots (t ∷ ts) = visit_slot t ∷ visit_slots ts

abbrev pub IsDone : List State → ℕ → Type 0
IsDone states slot = slice_get states slot ≡ Some Done

-- The visits, the next one first. What a slot that is being searched leads to is done, or stands
-- among the visits before it.
abbrev pub IsCovered : Slots → Pairs → List State → List ℕ → Visit → Type 0
IsCovered slots pairs states before (Enter slot) = Unit {0}
IsCovered slots pairs states before (Leave slot) =
    AllByRecursion (λ c. IsDone states c ⊎ IsAmong before c) (slots_below slots pairs slot)

abbrev pub AreCovered : Slots → Pairs → List State → List ℕ → List Visit → Type 0
AreCovered slots pairs states before [] = Unit {0}
AreCovered slots pairs states before (t ∷ ts) =
    IsCovered slots pairs states before t × AreCovered slots pairs states (visit_slot t ∷ before) ts

-- each visit's slot has a smaller rank than the open slots further down the stack
abbrev pub RanksUnder : (ℕ → ℕ) → ℕ → Visit → Type 0
RanksUnder rank slot (Enter other) = Unit {0}
RanksUnder rank slot (Leave other) = rank slot < rank other

abbrev pub ComeDown : (ℕ → ℕ) → List Visit → Type 0
ComeDown rank [] = Unit {0}
ComeDown rank (t ∷ ts) = AllByRecursion (RanksUnder rank (visit_slot t)) ts × ComeDown rank ts

-- slots of which it is known that no circle goes through them
pub record AreRanked (slots : Slots) (pairs : Pairs) (Known : ℕ → Type 0) : Type 0 where
  pub rank : ℕ → ℕ
  pub top : ℕ
  pub few : (slot : ℕ) → Known slot → rank slot < top
  pub down : (slot : ℕ) → Known slot
      → AllByRecursion (λ c. Known c × (rank c < rank slot)) (slots_below slots pairs slot)

-- the slots that are being searched
abbrev pub leave_slot : Visit → List ℕ → List ℕ
leave_slot (Enter slot) rest = rest
leave_slot (Leave slot) rest = slot ∷ rest

abbrev pub leave_slots : List Visit → List ℕ
leave_slots [] = []
leave_slots (t ∷ ts) = leave_slot t (leave_slots ts)

-- what is known of the slots and the visits, the next one first
pub record IsSearching (slots : Slots) (pairs : Pairs) (states : List State)
    (visits : List Visit) : Type 0 where
  pub bindings : AllByRecursion (IsBinding slots) pairs
  pub long : slot_count slots ≤ length states
  pub ordered : AreRanked slots pairs (IsDone states)
  pub covered : AreCovered slots pairs states [] visits
  pub come_down : (rank : ℕ → ℕ) → IsTriangularBy slots rank pairs → ComeDown rank visits
  pub opened : (slot : ℕ) → slice_get states slot ≡ Some Open → IsAmong (leave_slots visits) slot
  pub valid : AllByRecursion (λ t. visit_slot t < slot_count slots) visits

-- the slots that were done stay done
abbrev pub StayDone : List State → List State → Type 0
StayDone old new = (slot : ℕ) → IsDone old slot → IsDone new slot

abbrev pub HasSearchedCircle : Slots → Pairs → List State → List State → List Visit → Bool → Type 0
HasSearchedCircle slots pairs old new visits true =
    IsSearching slots pairs new [] × StayDone old new
    × ((slot : ℕ) → IsAmong (visit_slots visits) slot → IsDone new slot)
HasSearchedCircle slots pairs old new visits false =
    (rank : ℕ → ℕ) → IsTriangularBy slots rank pairs → ⊥

-- how much is left to do
abbrev pub work : List State → List Visit → ℕ
work states visits = sum_by state_weight states * 2 ^ 64 + length visits

-- There are never more visits than this, where no value has more than n cells: each slot that is
-- still new is left once, and each cell of its value enters one.
abbrev pub most_visits : ℕ → Slots → List State → ℕ → ℕ
most_visits n slots states visits = visits + (n + 1) * new_slots (slot_count slots) states

-- there is no room for so many
abbrev pub VisitsLackRoom : Slots → Pairs → List State → ℕ → ℕ → Type 0
VisitsLackRoom slots pairs states visits room =
    (n : ℕ) → AreNoLongerThan n pairs → room < most_visits n slots states visits

-- no more visits are left than were before, with those that may still come up
abbrev pub AreNoMore : Slots → Pairs → List State → List State → ℕ → ℕ → Type 0
AreNoMore slots pairs old new old_visits new_visits = (n : ℕ) → AreNoLongerThan n pairs
    → most_visits n slots new new_visits ≤ most_visits n slots old old_visits

-- one visit has been made
pub record HasMadeVisit (slots : Slots) (pairs : Pairs) (old new : List State)
    (old_visits new_visits : List Visit) : Type 0 where
  pub searching : IsSearching slots pairs new new_visits
  pub stay : StayDone old new
  pub kept : (slot : ℕ) → IsAmong (visit_slots old_visits) slot → IsDone new slot
      ⊎ IsAmong (visit_slots new_visits) slot
  pub less : work new new_visits < work old old_visits

abbrev pub HasDone : Slots → Pairs → List State → List State → List Visit → List Visit → Bool
    → Type 0
HasDone slots pairs old new old_visits new_visits true =
    HasMadeVisit slots pairs old new old_visits new_visits
HasDone slots pairs old new old_visits new_visits false = (rank : ℕ → ℕ)
    → IsTriangularBy slots rank pairs → ⊥

-- the visits enter the slots of the bindings from the mark on, up to this number
pub record AreEntries (pairs : Pairs) (mark n : ℕ) (visits : List Visit) : Type 0 where
  pub slots : List ℕ
  pub visits_are : visits ≡ enter_each slots
  pub sound : AllByRecursion (λ slot. (m : ℕ) × IsSlotOf pairs m slot) slots
  pub complete : (m slot : ℕ) → mark ≤ m → m < n → IsSlotOf pairs m slot → IsAmong slots slot
  pub distinct : HasDistinctSlots pairs

-- no variable in the slot's value is bound
abbrev pub IsResolved : Slots → Pairs → ℕ → Type 0
IsResolved slots pairs slot = slots_below slots pairs slot ≡ []

-- nor in the values of the bindings from the mark on, up to this number
pub record AreResolved (slots : Slots) (pairs : Pairs) (mark n : ℕ) : Type 0 where
  pub resolved : (m slot : ℕ) → mark ≤ m → m < n → IsSlotOf pairs m slot
      → IsResolved slots pairs slot
  pub distinct : HasDistinctSlots pairs

-- whether the list is triangular; its slots are distinct
abbrev pub SaysTriangular : Slots → Pairs → Bool → Type 0
SaysTriangular slots pairs true = IsAcyclic slots pairs × HasDistinctSlots pairs
SaysTriangular slots pairs false = IsAcyclic slots pairs → ⊥
