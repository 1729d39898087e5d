-- What the flat terms of entries and of patterns stand for.
use Rattle.std.specs.Prelude.{◌≡◌, ℕ, zero, suc, ◌+◌, ◌*◌, ◌^◌, ◌≤◌, Bool, true, false, not, ◌||◌, List, [], ◌∷◌, ◌++◌, length, map, filter, bytes_eq, Option, Some, None}
use Rattle.si_defs.specs.Bytes.{Bytes}
use Rattle.si_defs.specs.Terms.{size, variables, symbols, firsts}
use Rattle.si_defs.specs.Symbols.{Symbol, Numbering, IsNumbering, same_symbol}
use Rattle.si_defs.specs.Substitutions.{IsAmong}
use Rattle.si_defs.specs.Clauses as clauses
use Rattle.si_defs.specs.Clauses.{IsSoundTerm, IsSoundLiteral, literal_size}
use Rattle.si_defs.specs.Entries.{Entry, literal_entry, term_entry, whole_of, distinct_variables, pattern_entry}
use Rattle.si_defs.specs.declared.TheConstants.{MOST_OCCURRENCES}
use Rattle.si_term.specs.Terms.{symbol_of}
use Rattle.si_term.specs.declared.term.Sym.{Sym}
use Rattle.si_flat.specs.declared.Cell.{Cell}
use Rattle.si_flat.specs.declared.flatten.FlatQuery.{FlatQuery}
use Rattle.si_flat.specs.declared.walk.TheConstants.{FEW_CELLS}
use Rattle.si_flat.specs.Rooms.{Room}
use Rattle.si_flat.specs.Cells.{Variable, query, entry, same_variable, Term, StandsFor}
use Rattle.si_flat.specs.Numbered.{number_in, signed, place_in, numbered}

-- ---- numbers for the symbols that a table lacks
abbrev pub numbers_from : ℕ → List Symbol → Numbering
numbers_from n [] = []
numbers_from n (s ∷ ss) = (s, n) ∷ numbers_from (2 + n) ss

-- Each gets an even number, and no table has one of these.
abbrev pub extra_numbers : List Symbol → Numbering
extra_numbers ss = numbers_from (2 ^ 31) ss

abbrev pub has_number : Numbering → Symbol → Bool
has_number [] s = false
has_number (pair ∷ pairs) s = same_symbol pair.0 s || has_number pairs s

-- As in a table a symbol has one number, no two have the same, and all are even. But they may be
-- larger.
pub record IsQueryNumbering (pairs : Numbering) : Type 0 where
  pub one_number : (s : Symbol) (m n : ℕ) → IsAmong pairs (s, m) → IsAmong pairs (s, n) → m ≡ n
  pub one_symbol : (s r : Symbol) (n : ℕ) → IsAmong pairs (s, n) → IsAmong pairs (r, n) → s ≡ r
  pub even : (s : Symbol) (n : ℕ) → IsAmong pairs (s, n) → (half : ℕ) × (n ≡ 2 * half)

-- those of the symbols that have no number
abbrev pub unnumbered : Numbering → List Symbol → List Symbol
unnumbered pairs ss = filter (λ s. not (has_number pairs s)) ss

-- ---- entries
-- a term by itself has no sign
abbrev pub is_positive : Entry → Bool
is_positive (literal_entry l) = l.positive
is_positive (term_entry t) = true

abbrev pub IsSoundEntry : Entry → Type 0
IsSoundEntry (literal_entry l) = IsSoundLiteral l × (literal_size l ≤ MOST_OCCURRENCES)
IsSoundEntry (term_entry t) = IsSoundTerm t × (size t ≤ MOST_OCCURRENCES)

-- The entry with these numbers for its symbols. Its variables are numbered from 0 in the order of
-- their first occurrence.
abbrev pub numbered_entry : Numbering → (ℕ → Variable) → Entry → Term
numbered_entry pairs variable e =
    numbered
    (signed (is_positive e) (number_in pairs))
    (λ x. variable (place_in bytes_eq (distinct_variables e) x))
    (whole_of e)

-- so many variables, from a number on
abbrev pub counted_from : (ℕ → Variable) → ℕ → ℕ → List Variable
counted_from variable k zero = []
counted_from variable k (suc n) = variable k ∷ counted_from variable (suc k) n

-- its variables are numbered from 0 in the order of their first occurrence
abbrev pub IsNumberedBy : (ℕ → Variable) → Term → Type 0
IsNumberedBy variable t = (n : ℕ) × (firsts same_variable (variables t) ≡ counted_from variable 0 n)

pub record IsFlatOf (pairs : Numbering) (variable : ℕ → Variable) (e : Entry)
    (cells : List Cell) : Type 0 where
  pub stands : StandsFor cells (numbered_entry pairs variable e)
  pub numbered : IsNumberedBy variable (numbered_entry pairs variable e)

-- the entry's term, where each of its symbols has a number, and else none
abbrev pub FlattensEntry : Numbering → Entry → Option (List Cell) → Type 0
FlattensEntry pairs e None = unnumbered pairs (symbols (whole_of e)) ≡ [] → ⊥
FlattensEntry pairs e (Some cells) = (unnumbered pairs (symbols (whole_of e)) ≡ [])
    × IsFlatOf pairs entry e cells

-- the same in a buffer, with the names of the variables in the order of their numbers
pub record HoldsEntry (pairs : Numbering) (e : Entry) (cells : List Cell)
    (names : List Bytes) : Type 0 where
  pub known : unnumbered pairs (symbols (whole_of e)) ≡ []
  pub flat : IsFlatOf pairs entry e cells
  pub are_names : names ≡ distinct_variables e

abbrev pub FillsEntry : Numbering → Entry → List Cell → List Bytes → Bool → Type 0
FillsEntry pairs e cells names false = unnumbered pairs (symbols (whole_of e)) ≡ [] → ⊥
FillsEntry pairs e cells names true = HoldsEntry pairs e cells names

-- what a buffer shows
pub record Buffer : Type 0 where
  pub cells : List Cell
  pub names : List Bytes
  pub room : Room

-- The room is enough for the entry's cells, and for a few at least; for its variables, and for its
-- symbols that have no number, each once.
pub record IsEnoughFor (pairs : Numbering) (e : Entry) (room : Room) : Type 0 where
  pub few : FEW_CELLS ≤ room.cells
  pub cells : size (whole_of e) ≤ room.cells
  pub names : length (distinct_variables e) ≤ room.names
  pub symbols : length (firsts same_symbol (unnumbered pairs (symbols (whole_of e))))
      ≤ room.symbols

-- a table's pairs, and then those of the symbols that it lacks
abbrev pub query_numbers : Numbering → List Sym → Numbering
query_numbers pairs extra = pairs ++ extra_numbers (map symbol_of extra)

-- Each of the symbols that have no number comes once, and they are numbered after the others. All
-- symbols have numbers then.
pub record FlattensPattern (pairs : Numbering) (p : clauses.Pattern) (q : FlatQuery) : Type 0 where
  pub extra : map symbol_of q.extra
      ≡ firsts same_symbol (unnumbered pairs (symbols (whole_of (pattern_entry p))))
  pub flat : IsFlatOf (query_numbers pairs q.extra) query (pattern_entry p) q.flat
  pub complete : unnumbered (query_numbers pairs q.extra)
      (symbols (whole_of (pattern_entry p))) ≡ []
  pub numbering : IsNumbering pairs → IsQueryNumbering (query_numbers pairs q.extra)
