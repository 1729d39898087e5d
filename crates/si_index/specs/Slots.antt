-- The kept clauses by their slots, in order: the place in the list, then the key and the clause.
use Rattle.std.specs.Prelude.{◌≡◌, ℕ, ◌≤◌, List, length, slice_get, Some}
use Rattle.si_defs.specs.Substitutions.{IsAmong}
use Rattle.si_defs.specs.declared.TheConstants.{MOST_OCCURRENCES}
use Rattle.si_defs.specs.Symbols.{Numbering}
use Rattle.si_term.specs.Meaning.{clause_of}
use Rattle.si_flat.specs.Numbered.{number_in}
use Rattle.si_screen.specs.ClauseRows.{IsRowOf}
use Rattle.si_term.specs.declared.clause.Clause as term
use Rattle.si_keyed.specs.Keyed.{item_keys}
use Rattle.si_keyed.specs.Placed.{placed_items, PlacesRise}
use Rattle.si_index.specs.Kept.{Kept, clauses_of}

abbrev pub Slots : Type 0
Slots = List (ℕ × (ℕ × term.Clause))

-- these are the clauses of an index
pub record HasSlots (k : Kept) (slots : Slots) : Type 0 where
  pub keys : item_keys (placed_items slots) ≡ k.keys
  pub clauses : clauses_of (placed_items slots) ≡ k.clauses
  pub rise : PlacesRise slots
  pub few : length slots ≤ MOST_OCCURRENCES

-- a clause with this key stands in this slot
abbrev pub IsIn : Slots → ℕ → ℕ → Type 0
IsIn slots slot key = (c : term.Clause) × IsAmong slots (slot, (key, c))

-- Each clause has its row at its slot in the other list, by these numbers.
abbrev pub HaveSlotRows : Numbering → Slots → List (List ℕ) → Type 0
HaveSlotRows numbers slots rows = (slot key : ℕ) (c : term.Clause) → IsAmong slots (slot, (key, c))
    → (row : List ℕ) × (slice_get rows slot ≡ Some row)
    × IsRowOf (number_in numbers) (clause_of c).literals row
