-- What a trail is seen as: a number of slots, and pairs of a slot and its value in the order in
-- which they were bound.
use Rattle.std.specs.Prelude.{◌≡◌, ℕ, ◌<◌, ◌==◌, if◌then◌else◌, List, [], ◌∷◌, refl, Option, None, Some, slice_get}
use Rattle.std.specs.List.{AllByRecursion}
use Rattle.std.specs.Coded.{Coded, code_by, coded×, coded_ℕ, coded_list}

pub record Trail (T : Type 0) : Type 0 where
  pub slots : ℕ
  pub pairs : List (ℕ × T)

abbrev pub trail_code : {T : Type 0} → Coded T → Coded (Trail T)
trail_code {T} code =
    code_by
    (ℕ × List (ℕ × T))
    (coded× coded_ℕ (coded_list (coded× coded_ℕ code)))
    (λ t. (t.slots, t.pairs))
    (λ p. record { slots = p.0; pairs = p.1 })
    (λ _. refl)

module _ {T : Type 0} where
  -- the value that is paired with the slot
  abbrev pub value_at : List (ℕ × T) → ℕ → Option T
  value_at [] slot = None
  value_at (pair ∷ pairs) slot = if pair.0 == slot then Some pair.1 else value_at pairs slot

  -- no slot is paired twice
  abbrev pub HasDistinctSlots : List (ℕ × T) → Type 0
  HasDistinctSlots [] = Unit {0}
  HasDistinctSlots (pair ∷ pairs) = (value_at pairs pair.0 ≡ None) × HasDistinctSlots pairs

  -- each slot that is paired is one of the first so many
  abbrev pub HasSlotsBelow : ℕ → List (ℕ × T) → Type 0
  HasSlotsBelow n = AllByRecursion (λ pair. pair.0 < n)

  -- the slots of these pairs have no value in those
  abbrev pub AreUnbound : List (ℕ × T) → List (ℕ × T) → Type 0
  AreUnbound those = AllByRecursion (λ pair. value_at those pair.0 ≡ None)

  -- the pair with this number has the slot
  abbrev pub IsSlotOf : List (ℕ × T) → ℕ → ℕ → Type 0
  IsSlotOf pairs n slot = (value : T) × (slice_get pairs n ≡ Some (slot, value))
