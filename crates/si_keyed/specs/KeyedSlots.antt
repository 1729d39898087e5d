-- How a list whose items go by keys is kept: slots with holes, and tables beside them.
use Rattle.std.specs.Prelude.{◌≡◌, ℕ, ◌+◌, ◌*◌, ◌≤◌, List, [], ◌∷◌, Option, None, Some, length, slice_index_or}
use Rattle.slab.specs.Slab.{Slab, get, slab_len}
use Rattle.si_defs.specs.Substitutions.{AreDistinct}
use Rattle.si_keyed.specs.Keyed.{Keyed, item_keys, HasKey}
use Rattle.si_keyed.specs.declared.keyed.Kept.{Kept}

module _ {T : Type 0} where
  -- the items of the slots in order, each with its key
  abbrev pub kept : List (Option (Kept T)) → List (ℕ × T)
  kept [] = []
  kept (None ∷ slots) = kept slots
  kept (Some k ∷ slots) = (k.key, k.item) ∷ kept slots

  -- there is at most one hole more than there are items
  abbrev pub HaveFewHoles : List (Option (Kept T)) → Type 0
  HaveFewHoles slots = length slots ≤ 2 * length (kept slots) + 1

  -- 1 for an item, and 0 for a hole
  abbrev pub flags : List (Option (Kept T)) → List ℕ
  flags [] = []
  flags (None ∷ slots) = 0 ∷ flags slots
  flags (Some k ∷ slots) = 1 ∷ flags slots

  -- this item stands at this place
  abbrev pub HoldsAt : List (Option (Kept T)) → ℕ → Kept T → Type 0
  HoldsAt slots place k = slice_index_or slots place None ≡ Some k

  -- each item's key leads to its place, and each key that leads anywhere is that of the item there
  pub record IsLinked (slots : List (Option (Kept T))) (place_of : ℕ → Option ℕ) : Type 0 where
    pub there : (place : ℕ) (k : Kept T) → HoldsAt slots place k → place_of k.key ≡ Some place
    pub back : (key place : ℕ) → place_of key ≡ Some place
        → (k : Kept T) × HoldsAt slots place k × (k.key ≡ key)

  -- the keys of these items are distinct, and just these lead anywhere
  pub record KnowsKeys (items : List (ℕ × T)) (place_of : ℕ → Option ℕ) : Type 0 where
    pub distinct : AreDistinct (item_keys items)
    pub known : (key : ℕ) → HasKey items key → (place : ℕ) × (place_of key ≡ Some place)
    pub only : (key place : ℕ) → place_of key ≡ Some place → HasKey items key

  -- the table of places leads to the items, and the ranks count them
  pub record IsIndexed (slots : List (Option (Kept T))) (places : Slab ℕ)
      (ranks : List ℕ) : Type 0 where
    pub linked : IsLinked slots (λ key. get places key)
    pub number : slab_len places ≡ length (kept slots)
    pub counted : ranks ≡ flags slots

module _ {T M : Type 0} where
  -- the marks of the items by their slots, each with the item's key; those of holes are passed over
  abbrev pub marked : List (Option (Kept T)) → List M → List (ℕ × M)
  marked [] marks = []
  marked (slot ∷ slots) [] = []
  marked (None ∷ slots) (m ∷ marks) = marked slots marks
  marked (Some k ∷ slots) (m ∷ marks) = (k.key, m) ∷ marked slots marks

  -- the marks of the items alone
  abbrev pub without_holes : List (Option (Kept T)) → List M → List M
  without_holes [] marks = []
  without_holes (slot ∷ slots) [] = []
  without_holes (None ∷ slots) (m ∷ marks) = without_holes slots marks
  without_holes (Some k ∷ slots) (m ∷ marks) = m ∷ without_holes slots marks

  -- what slots with marks are seen as
  abbrev pub seen : List (Option (Kept T)) → List M → Keyed T M
  seen slots marks = record {
    items = kept slots;
    marks = marked slots marks;
    slots = length slots;
  }
