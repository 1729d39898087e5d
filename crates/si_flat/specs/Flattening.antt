-- What a walk over terms of the program has met and written.
use Rattle.std.specs.Prelude.{◌≡◌, ℕ, ◌+◌, ◌*◌, ◌^◌, ◌<◌, ◌≤◌, Bool, true, false, List, [], ◌++◌, length, map, Option, None, Some, bytes_eq}
use Rattle.std.specs.List.{list_any, position_or_len}
use Rattle.indexmap.specs.IndexSet.{index_set_len, insert_all, spare}
use Rattle.si_defs.specs.Bytes.{Bytes}
use Rattle.si_defs.specs.Terms as terms
use Rattle.si_defs.specs.Symbols.{Symbol, Numbering, same_symbol}
use Rattle.si_defs.specs.Clauses as clauses
use Rattle.si_defs.specs.Entries as entries
use Rattle.si_defs.specs.declared.TheConstants.{MOST_OCCURRENCES}
use Rattle.si_flat.specs.declared.Cell.{Cell}
use Rattle.si_flat.specs.declared.Owner.{Owner}
use Rattle.si_flat.specs.declared.Owner.TheVariants.{Query, Entry}
use Rattle.si_flat.specs.declared.walk.Scheme.{Scheme}
use Rattle.si_flat.specs.declared.walk.WrittenEntry.{WrittenEntry}
use Rattle.si_flat.specs.declared.met.Met.{Met}
use Rattle.si_flat.specs.declared.met.SymbolKey.{SymbolKey}
use Rattle.si_flat.specs.Cells.{Variable, query, entry, cells_of, cells_of_all}
use Rattle.si_defs.specs.Entries.{whole_of}
use Rattle.si_flat.specs.Flattened.{numbers_from, unnumbered, is_positive}
use Rattle.si_flat.specs.Rooms.{Room, names_room}
use Rattle.si_flat.specs.Numbered.{number_in, signed, place_in, numbered, all_numbered}

-- ---- a walk over terms that has met some variables and symbols, and has written some cells
abbrev pub owners_variable : Owner → ℕ → Variable
owners_variable Query n = query n
owners_variable Entry n = entry n

abbrev pub symbol_of_key : SymbolKey → Symbol
symbol_of_key k = record { kind = k.kind; text = k.text.now; side = k.side; arity = k.arity }

abbrev pub met_names : Met → List Bytes
met_names m = m.names.items

abbrev pub met_extra : Met → List Symbol
met_extra m = map symbol_of_key m.extra.keys

-- how much fits in its memory, and in a list of cells that has room for so many
abbrev pub room_of : Met → ℕ → Room
room_of m cells = record {
  cells = cells;
  names = names_room m.names;
  symbols = index_set_len m.extra + spare m.extra;
}

-- it may meet so many more, and there are numbers for them
pub record MayMeet (scheme : Scheme) (m : Met) (n : ℕ) : Type 0 where
  pub names : length (met_names m) + n ≤ MOST_OCCURRENCES
  pub extra : scheme.first + 2 * (length (met_extra m) + n) < 2 ^ 32

pub record WalkState : Type 0 where
  pub names : List Bytes
  pub extra : List Symbol
  pub cells : List Cell

abbrev pub walk_state : Met → List Cell → WalkState
walk_state m cells = record { names = met_names m; extra = met_extra m; cells = cells }

-- the place of the first member that passes a test, if there is one
abbrev pub FindsPlace : {V : Type 0} → (V → Bool) → List V → Option ℕ → Type 0
FindsPlace test xs None = list_any test xs ≡ false
FindsPlace test xs (Some n) = (list_any test xs ≡ true) × (position_or_len test xs ≡ n)
    × (n < length xs)

-- so many stand before x, whatever comes after
abbrev pub IsIndex : {V : Type 0} → (V → V → Bool) → List V → V → ℕ → Type 0
IsIndex {V} same xs x n = (more : List V) → place_in same (xs ++ more) x ≡ n

-- the number of a symbol, whatever is met later
abbrev pub number_by : Numbering → Scheme → List Symbol → Symbol → ℕ
number_by pairs scheme extra =
    signed scheme.positive (number_in (pairs ++ numbers_from scheme.first extra))

abbrev pub IsSymbolNumber : Numbering → Scheme → List Symbol → Symbol → ℕ → Type 0
IsSymbolNumber pairs scheme extra s n = (more : List Symbol)
    → number_by pairs scheme (extra ++ more) s ≡ n

-- what is walked over: its variables and symbols, and its cells by their numbers
pub record WalkPiece : Type 0 where
  pub variables : List Bytes
  pub symbols : List Symbol
  pub cells : (Symbol → ℕ) → (Bytes → Variable) → List Cell

abbrev pub term_piece : clauses.Term → WalkPiece
term_piece t = record {
  variables = terms.variables t;
  symbols = terms.symbols t;
  cells = λ number variable. cells_of (numbered number variable t);
}

abbrev pub terms_piece : clauses.Terms → WalkPiece
terms_piece ts = record {
  variables = terms.variables_of_all ts;
  symbols = terms.symbols_of_all ts;
  cells = λ number variable. cells_of_all (all_numbered number variable ts);
}

-- one after the other
abbrev pub piece_then : WalkPiece → WalkPiece → WalkPiece
piece_then p q = record {
  variables = p.variables ++ q.variables;
  symbols = p.symbols ++ q.symbols;
  cells = λ number variable. p.cells number variable ++ q.cells number variable;
}

-- Its variables and symbols were met in turn, and its cells were written, whatever is met later.
pub record Flattens (pairs : Numbering) (scheme : Scheme) (old new : WalkState)
    (piece : WalkPiece) : Type 0 where
  pub names : new.names ≡ insert_all bytes_eq old.names piece.variables
  pub extra : new.extra ≡ insert_all same_symbol old.extra (unnumbered pairs piece.symbols)
  pub cells : (xs : List Bytes) (ss : List Symbol)
      → new.cells
      ≡ old.cells
      ++ piece.cells
      (number_by pairs scheme (new.extra ++ ss))
      (λ x. owners_variable scheme.owner (place_in bytes_eq (new.names ++ xs) x))

-- Once so many cells are written, and what is met is met, there is no more than fits.
pub record FitsRoom (pairs : Numbering) (room : Room) (old : WalkState) (piece : WalkPiece)
    (size : ℕ) : Type 0 where
  pub cells : length old.cells + size ≤ room.cells
  pub names : length (insert_all bytes_eq old.names piece.variables) ≤ room.names
  pub symbols : length (insert_all same_symbol old.extra (unnumbered pairs piece.symbols))
      ≤ room.symbols

-- ---- an entry by itself
abbrev pub empty_walk : WalkState
empty_walk = record { names = []; extra = []; cells = [] }

-- the symbols outside the table come after those in it
abbrev pub entry_scheme : Owner → Bool → Scheme
entry_scheme owner positive = record { positive = positive; owner = owner; first = 2 ^ 31 }

abbrev pub WritesEntry : Numbering → Owner → entries.Entry → WrittenEntry → Type 0
WritesEntry pairs owner e w =
    Flattens pairs (entry_scheme owner (is_positive e)) empty_walk (walk_state w.met w.cells.items)
    (term_piece (whole_of e))

-- ---- a query's pattern
abbrev pub WritesPattern : Numbering → clauses.Pattern → WalkState → Type 0
WritesPattern pairs p w =
    Flattens pairs (entry_scheme Query (is_positive (entries.pattern_entry p))) empty_walk w
    (term_piece (whole_of (entries.pattern_entry p)))

-- what was written is some pattern's
abbrev pub IsWritten : WalkState → Type 0
IsWritten w =
    (pairs : Numbering) × (p : clauses.Pattern) × clauses.IsSoundPattern p × WritesPattern pairs p w
