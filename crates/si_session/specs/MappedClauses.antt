-- The kept clauses that were found, each with its map, and their lines.
use Rattle.std.specs.Prelude.{◌≡◌, ◌<◌, ℕ, List, [], ◌∷◌, ◌++◌, Option, None, Some, length, slice_get}
use Rattle.si_defs.specs.Bytes.{Bytes}
use Rattle.si_defs.specs.Clauses.{Name, Clause}
use Rattle.si_defs.specs.Printing.{name_text, map_text}
use Rattle.si_state.specs.Subsumption.{MappedClause}
use Rattle.si_index.specs.declared.subsuming.Mapped.{Mapped}
use Rattle.si_session.specs.Separators.{separator_text}
use Rattle.si_session.specs.declared.separator.Separator.TheVariants.{Space, LineFeed}

-- it is found at the position of a clause
abbrev pub IsKeptAt : List Clause → Mapped → Type 0
IsKeptAt clauses m = m.clause < length clauses

-- the clause at its position, if there is one, with its map
abbrev pub mapped_at : Option Clause → Mapped → List MappedClause
mapped_at None m = []
mapped_at (Some c) m = record { clause = c; numbers = m.map } ∷ []

-- the same of all that were found among these clauses
abbrev pub all_mapped : List Clause → List Mapped → List MappedClause
all_mapped clauses [] = []
all_mapped clauses (m ∷ ms) = mapped_at (slice_get clauses m.clause) m ++ all_mapped clauses ms

-- a line of a name and a map, with its end
unfoldable pub mapped_line : Name → List ℕ → Bytes
mapped_line name ns =
    name_text name ++ separator_text Space ++ map_text ns ++ separator_text LineFeed

-- the line of the one with this number
abbrev pub IsMappedLine : List Clause → List Mapped → ℕ → Bytes → Type 0
IsMappedLine clauses found n text =
    (m : Mapped) × (c : Clause) × (slice_get found n ≡ Some m)
    × (slice_get clauses m.clause ≡ Some c) × (text ≡ mapped_line c.name m.map)
