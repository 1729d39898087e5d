-- A list whose items go by keys.
use Rattle.std.specs.Prelude.{◌≡◌, ℕ, ◌+◌, ◌*◌, ◌≤◌, List, ◌∷◌, ◌++◌, Some, refl, length, map, slice_get}
use Rattle.std.specs.Coded.{Coded, code_by, coded×, coded_ℕ, coded_list}
use Rattle.si_defs.specs.Substitutions.{IsAmong}

-- the items in order, each with its key, their marks in the same way, and the number of slots for
-- items and holes
pub record Keyed (T M : Type 0) : Type 0 where
  pub items : List (ℕ × T)
  pub marks : List (ℕ × M)
  pub slots : ℕ

abbrev pub keyed_code : {T M : Type 0} → Coded T → Coded M → Coded (Keyed T M)
keyed_code {T} {M} code mark_code =
    code_by
    (List (ℕ × T) × (List (ℕ × M) × ℕ))
    (coded× (coded_list (coded× coded_ℕ code))
    (coded× (coded_list (coded× coded_ℕ mark_code)) coded_ℕ))
    (λ l. (l.items, (l.marks, l.slots)))
    (λ p. record { items = p.0; marks = p.1.0; slots = p.1.1 })
    (λ _. refl)

module _ {T : Type 0} where
  -- the keys of the items, in order
  abbrev pub item_keys : List (ℕ × T) → List ℕ
  item_keys = map (λ e. e.0)

  -- an item has this key
  abbrev pub HasKey : List (ℕ × T) → ℕ → Type 0
  HasKey items key = IsAmong (item_keys items) key

  -- the item at this position has this key
  abbrev pub HasKeyAt : List (ℕ × T) → ℕ → ℕ → Type 0
  HasKeyAt items position key = slice_get (item_keys items) position ≡ Some key

  -- the item with this key was taken from between the others
  pub record IsTakenOut (old : List (ℕ × T)) (key : ℕ) (item : T)
      (new : List (ℕ × T)) : Type 0 where
    pub before : List (ℕ × T)
    pub after : List (ℕ × T)
    pub whole : old ≡ before ++ (key, item) ∷ after
    pub rest : new ≡ before ++ after

module _ {T M : Type 0} where
  -- there is at most one hole more than there are items
  abbrev pub HasFewHoles : Keyed T M → Type 0
  HasFewHoles l = l.slots ≤ 2 * length l.items + 1
