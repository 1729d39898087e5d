-- The row of a clause (this project's profile of feature vectors; Schulz 2004).
use Rattle.std.specs.Prelude.{ℕ, ◌+◌, ◌%◌, ◌<◌, ◌↔◌, Bool, true, false, List, [], ◌∷◌, ◌++◌, map, Option, None, Some}
use Rattle.si_defs.specs.Terms.{head, firsts}
use Rattle.si_defs.specs.Symbols.{Symbol, Numbering, same_symbol}
use Rattle.si_defs.specs.Clauses.{Literal}
use Rattle.si_defs.specs.Entries.{Entry, Placed, literal_entry, term_entry, entries_from, literals_symbols}
use Rattle.si_defs.specs.Substitutions.{IsAmong}
use Rattle.si_state.specs.Subsumption.{Subsumes}
use Rattle.si_flat.specs.Flattened.{unnumbered, extra_numbers}
use Rattle.si_lanes.specs.Rows.{HasBit, IsSubset}

-- a negative literal's head goes by the number that is one above its symbol's
abbrev pub above : Bool → ℕ → ℕ
above true n = n
above false n = 1 + n

-- the number of a symbol, if there is one
abbrev pub number_if_any : (Symbol → ℕ) → Option Symbol → List ℕ
number_if_any number None = []
number_if_any number (Some s) = number s ∷ []

-- the number of an entry's head
abbrev pub head_number : (Symbol → ℕ) → Entry → List ℕ
head_number number (literal_entry l) = map (above l.positive) (number_if_any number (head l.atom))
head_number number (term_entry t) = number_if_any number (head t)

-- those of the heads of these entries
abbrev pub head_numbers : (Symbol → ℕ) → List Placed → List ℕ
head_numbers number [] = []
head_numbers number (e ∷ es) = head_number number e.entry ++ head_numbers number es

-- the remainder that stands for a number
abbrev pub bit_of : ℕ → ℕ
bit_of n = n % 256

-- The row has exactly the bits of these numbers, which are told apart by their remainders.
abbrev pub HasNumbers : List ℕ → List ℕ → Type 0
HasNumbers numbers row = (b : ℕ) → b < 256 → HasBit row b ↔ IsAmong (map bit_of numbers) b

-- the row of a clause with these literals
abbrev pub IsRowOf : (Symbol → ℕ) → List Literal → List ℕ → Type 0
IsRowOf number ls row = HasNumbers (head_numbers number (entries_from 1 ls)) row

-- ---- the symbols of a formula that a table lacks
-- those of these literals, each once, in the order of their first occurrence
abbrev pub lacking : Numbering → List Literal → List Symbol
lacking pairs ls = firsts same_symbol (unnumbered pairs (literals_symbols ls))

-- the numbers of the table, and after them those of the others
abbrev pub with_extra : Numbering → List Symbol → Numbering
with_extra pairs extra = pairs ++ extra_numbers extra

-- ---- one row and another
-- where a clause subsumes another one, its row is a subset of the other's
abbrev pub RowsFollow : (Symbol → ℕ) → Type 0
RowsFollow number = (c d : List Literal) (row other : List ℕ) → Subsumes c d → IsRowOf number c row
    → IsRowOf number d other → IsSubset row other
