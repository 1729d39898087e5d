-- How many visits there may be at once.
use Rattle.std.proofs.Common.{◌≡◌, ℕ, zero, suc, ◌+◌, ◌*◌, ◌<◌, ◌≤◌, List, [], ◌∷◌, ◌++◌, length, refl, ◌∙◌, ap, subst, arith, length-append, Option, None, Some}
use Rattle.std.proofs.Math.ListN.{set}
use Rattle.std.proofs.Math.Nat.{le-mul_of_pos_right, mul-le-mul_left, mul-suc}
use Rattle.std.specs.Prelude.{slice_get}
use Rattle.std.specs.List.{AllByRecursion}
use Rattle.std.specs.Borrow.{Bor}
use Rattle.si_flat.specs.declared.Cell.{Cell}
use Rattle.si_trail.specs.Trails.{value_at, HasDistinctSlots, HasSlotsBelow}
use Rattle.si_trail.proofs.BoundLaws.{as_many}
use Rattle.si_unify.specs.declared.slots.Slots.{Slots}
use Rattle.si_unify.specs.declared.states.State.{State}
use Rattle.si_unify.specs.declared.states.State.TheVariants.{New, Open, Done}
use Rattle.si_unify.specs.declared.circles.Visit.{Visit}
use Rattle.si_unify.specs.declared.circles.Visit.TheVariants.{Enter}
use Rattle.si_unify.specs.Solving.{Pairs, slot_count, IsBinding}
use Rattle.si_unify.specs.Spots.{cell_slot}
use Rattle.si_unify.specs.Rooms.{AreNoLongerThan}
use Rattle.si_unify.specs.States.{state_weight, new_slots}
use Rattle.si_unify.specs.Circles.{if_bound, with_slot, bound_slots, enter_each, pile, visits_of, AreEntered, below_value, slots_below, most_visits, AreNoMore, VisitsLackRoom, IsSearching, visit_slot}
use Rattle.si_unify.proofs.Places.{value_holds}

-- ---- new slots
few_new : (count : ℕ) (states : List State) → new_slots count states ≤ count
few_new zero states = omega arith
few_new (suc count) [] = omega arith
few_new (suc count) (New ∷ states) = let few = few_new count states in omega (arith, few)
few_new (suc count) (Open ∷ states) = let few = few_new count states in omega (arith, few)
few_new (suc count) (Done ∷ states) = let few = few_new count states in omega (arith, few)

-- a slot that becomes another state than new
no_more_new : (count : ℕ) (states : List State) (slot : ℕ) (s : State) → state_weight s ≡ 0 → new_slots count (set states slot s) ≤ new_slots count states
no_more_new zero states slot s none = omega arith
no_more_new (suc count) [] slot s none = omega arith
no_more_new (suc count) (x ∷ states) zero s none = omega (arith, none)
no_more_new (suc count) (x ∷ states) (suc slot) s none = let few = no_more_new count states slot s none in omega (arith, few)

one_less_new : (count : ℕ) (states : List State) (slot : ℕ) → slot < count → slice_get states slot ≡ Some New → new_slots count (set states slot Open) + 1 ≡ new_slots count states
one_less_new zero states slot less is = absurd (omega arith)
one_less_new (suc count) [] slot less is = let bad : None ≡ Some New = is in cc
one_less_new (suc count) (x ∷ states) zero less is =
    let new : x ≡ New = cc in omega (arith, ap state_weight new)
one_less_new (suc count) (x ∷ states) (suc slot) less is =
    let rest = one_less_new count states slot (omega (arith, less)) is in omega (arith, rest)

-- ---- the visits that come up for a slot
length-enter_each : (xs : List ℕ) → length (enter_each xs) ≡ length xs
length-enter_each [] = refl
length-enter_each (x ∷ xs) = ap suc (length-enter_each xs)

length-pile : (xs before : List ℕ) → length (pile xs before) ≡ length xs + length before
length-pile [] before = omega arith
length-pile (x ∷ xs) before = let h = length-pile xs (x ∷ before) in omega (arith, h)

few_bound : (slots : Slots) (pairs : Pairs) (cells : List Cell) → length (bound_slots slots pairs cells) ≤ length cells
few_bound slots pairs [] = omega arith
few_bound slots pairs (c ∷ cells) = omega (arith, one (if_bound pairs (cell_slot slots c)) (few_bound slots pairs cells))
  where
    one : (o : Option ℕ) → length (bound_slots slots pairs cells) ≤ length cells → length (with_slot o (bound_slots slots pairs cells)) ≤ length cells + 1
    one None few = omega (arith, few)
    one (Some z) few = omega (arith, few)

length-visits : (xs : List ℕ) → length (enter_each (pile xs [])) ≡ length xs
length-visits xs = length-enter_each (pile xs []) ∙ length-pile xs [] ∙ omega arith

pub few_entered : (slots : Slots) (pairs : Pairs) (cells : List Cell) (old new : List Visit) → AreEntered slots pairs cells old new → length new ≤ length old + length cells
few_entered slots pairs cells old new h =
    omega (arith, ap length h, length-append (enter_each (pile (bound_slots slots pairs cells) [])) old, length-visits (bound_slots slots pairs cells), few_bound slots pairs cells)

few_below : (n : ℕ) (slots : Slots) (pairs : Pairs) (slot : ℕ) → AreNoLongerThan n pairs → length (slots_below slots pairs slot) ≤ n
few_below n slots pairs slot within = go (value_at pairs slot) refl
  where
    go : (o : Option (Bor (List Cell))) → value_at pairs slot ≡ o → length (below_value slots pairs o) ≤ n
    go None e = omega arith
    go (Some v) e = omega (arith, few_bound slots pairs v.now, value_holds (λ pair. length pair.1.now ≤ n) pairs slot v within e)

-- ---- from visit to visit
pub entered_below : (slots : Slots) (pairs : Pairs) (states : List State) (slot : ℕ) (visit : Visit) (visits : List Visit) → visit ≡ Enter slot → IsSearching slots pairs states (visit ∷ visits) → slot < slot_count slots
entered_below slots pairs states slot visit visits e h = subst (λ t. visit_slot t < slot_count slots) e h.valid.0

-- a visit that brings none
pub none_more : (slots : Slots) (pairs : Pairs) (states : List State) (visits more : ℕ) → more ≡ visits → AreNoMore slots pairs states states (visits + 1) more
none_more slots pairs states visits more e n within = omega (arith, e)

pub left_more : (slots : Slots) (pairs : Pairs) (states : List State) (slot visits more : ℕ) → more ≡ visits → AreNoMore slots pairs states (set states slot Done) (visits + 1) more
left_more slots pairs states slot visits more e n within =
    let fewer = mul-le-mul_left {m = new_slots (slot_count slots) (set states slot Done)} {n = new_slots (slot_count slots) states} (n + 1) (no_more_new (slot_count slots) states slot Done refl) in
    omega (arith, fewer, e)

-- a slot is opened
module _ (slots : Slots) (pairs : Pairs) (states : List State) (slot : ℕ) (below : slot < slot_count slots) (is_new : slice_get states slot ≡ Some New) where
  taken : (n : ℕ) → (n + 1) * new_slots (slot_count slots) states ≡ (n + 1) * new_slots (slot_count slots) (set states slot Open) + (n + 1)
  taken n =
      let less = one_less_new (slot_count slots) states slot below is_new in
      let up : new_slots (slot_count slots) states ≡ suc (new_slots (slot_count slots) (set states slot Open)) = omega (arith, less) in
      ap (λ k. (n + 1) * k) up ∙ mul-suc (n + 1) (new_slots (slot_count slots) (set states slot Open))

  pub opened_more : (visits : ℕ) (old new : List Visit) → length old ≡ visits + 1 → new ≡ visits_of slots pairs slot ++ old → AreNoMore slots pairs states (set states slot Open) (visits + 1) (length new)
  opened_more visits old new long e n within =
      omega (arith, taken n, long, ap length e, length-append (visits_of slots pairs slot) old, length-visits (slots_below slots pairs slot), few_below n slots pairs slot within)

  pub leave_refused : (visits room : ℕ) → room ≤ visits → VisitsLackRoom slots pairs states (visits + 1) room
  leave_refused visits room full n within = omega (arith, full)

  pub entries_refused : (visits room more : ℕ) → room ≤ more → ((n : ℕ) → AreNoLongerThan n pairs → more < visits + 1 + n) → VisitsLackRoom slots pairs states (visits + 1) room
  entries_refused visits room more kept full n within = omega (arith, kept, full n within, taken n)

-- no slot is bound twice
all_below : (slots : Slots) (pairs : Pairs) → AllByRecursion (IsBinding slots) pairs → HasSlotsBelow (slot_count slots) pairs
all_below slots [] bindings = tt
all_below slots (pair ∷ pairs) bindings = (bindings.0.below, all_below slots pairs bindings.1)

pub few_bindings : (slots : Slots) (pairs : Pairs) → AllByRecursion (IsBinding slots) pairs → HasDistinctSlots pairs → length pairs ≤ slot_count slots
few_bindings slots pairs bindings distinct = as_many (slot_count slots) pairs distinct (all_below slots pairs bindings)

-- all visits fit in twice as many places as there are slots, and one for each cell of a value
pub search_fits : (n : ℕ) (slots : Slots) (states : List State) (visits : ℕ) → visits ≤ slot_count slots → most_visits n slots states visits ≤ slot_count slots * (n + 2)
search_fits n slots states visits few =
    let rows = mul-le-mul_left {m = new_slots (slot_count slots) states} {n = slot_count slots} (n + 1) (few_new (slot_count slots) states) in
    omega (arith, rows, few, whole (slot_count slots))
  where
    whole : (k : ℕ) → k * (n + 2) ≡ k + (n + 1) * k
    whole k = grind arith

pub some_visits : (k n : ℕ) → k ≤ k * (n + 2)
some_visits k n = omega (arith, le-mul_of_pos_right {m = n + 2} k (omega arith))
