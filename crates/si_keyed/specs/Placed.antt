-- The items of slots, each with its place among them.
use Rattle.std.specs.Prelude.{◌≡◌, slice_get, ℕ, ◌<◌, List, [], ◌∷◌, Option, None, Some, map, suc}
use Rattle.std.specs.List.{AllByRecursion}
use Rattle.si_defs.specs.Substitutions.{IsAmong}
use Rattle.si_keyed.specs.declared.keyed.Kept.{Kept}

module _ {T : Type 0} where
  -- the keys and items in order, each with its place in front; the first slot has the place n
  abbrev pub placed_from : ℕ → List (Option (Kept T)) → List (ℕ × (ℕ × T))
  placed_from n [] = []
  placed_from n (None ∷ slots) = placed_from (suc n) slots
  placed_from n (Some k ∷ slots) = (n, (k.key, k.item)) ∷ placed_from (suc n) slots

  -- the keys and items alone
  abbrev pub placed_items : List (ℕ × (ℕ × T)) → List (ℕ × T)
  placed_items placed = map (λ p. p.1) placed

  -- an item stands at this place
  abbrev pub HasPlace : List (ℕ × (ℕ × T)) → ℕ → Type 0
  HasPlace placed place = (x : ℕ × T) × IsAmong placed (place, x)

  -- an item after another one has a higher place
  abbrev pub PlacesRise : List (ℕ × (ℕ × T)) → Type 0
  PlacesRise [] = Unit {0}
  PlacesRise (p ∷ placed) = AllByRecursion (λ q. p.0 < q.0) placed × PlacesRise placed

-- each of these items has its mark at its place in the other list
abbrev pub HaveMarks : {T M : Type 0} → List (ℕ × (ℕ × T)) → List (ℕ × M) → List M → Type 0
HaveMarks {T} {M} placed marks by_place = (place key : ℕ) (item : T)
    → IsAmong placed (place, (key, item))
    → (mark : M) × (slice_get by_place place ≡ Some mark) × IsAmong marks (key, mark)
