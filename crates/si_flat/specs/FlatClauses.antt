-- What the flat terms of two clauses stand for: each has its literals' atoms below one head.
use Rattle.std.specs.Prelude.{◌≡◌, ℕ, ◌+◌, ◌-◌, ◌^◌, ◌≤◌, true, List, [], ◌∷◌, ◌++◌, length, bytes_eq}
use Rattle.si_defs.specs.Bytes.{Bytes}
use Rattle.si_defs.specs.Terms as terms
use Rattle.si_defs.specs.Symbols as symbols
use Rattle.si_defs.specs.Symbols.{Numbering, IsNumbering, same_symbol}
use Rattle.si_defs.specs.Clauses.{Literal, literals_size}
use Rattle.si_defs.specs.Entries.{literals_symbols, literals_variables}
use Rattle.si_flat.specs.declared.Cell.{Cell}
use Rattle.si_flat.specs.declared.Owner.{Owner}
use Rattle.si_flat.specs.Cells.{Symbol, Variable, query, entry, Term, Terms, StandsFor, cells_of, cells_of_all}
use Rattle.si_flat.specs.Numbered.{number_in, signed, place_in, numbered}
use Rattle.si_flat.specs.Flattened.{numbers_from, extra_numbers, unnumbered}
use Rattle.si_flat.specs.Rooms.{Room}
use Rattle.si_flat.specs.Flattening.{WalkPiece, owners_variable}
use Rattle.si_flat.specs.declared.walk.Scheme.{Scheme}

-- ---- the terms
-- the atoms in order, the predicates of negative literals with the numbers one above
abbrev pub numbered_atoms : (symbols.Symbol → ℕ) → (Bytes → Variable) → List Literal → Terms
numbered_atoms number variable [] = terms.none
numbered_atoms number variable (l ∷ ls) =
    terms.more (numbered (signed l.positive number) variable l.atom)
    (numbered_atoms number variable ls)

-- the head of a clause has a number that is no symbol's
abbrev pub clause_head : ℕ → Symbol
clause_head literals = record { number = 2 ^ 32 - 1; arity = literals }

abbrev pub numbered_clause : (symbols.Symbol → ℕ) → (Bytes → Variable) → List Literal → Term
numbered_clause number variable ls =
    terms.app (clause_head (length ls)) (numbered_atoms number variable ls)

-- The variables are numbered from 0 in the order of their first occurrence in all literals.
abbrev pub flat_clause : Numbering → (ℕ → Variable) → List Literal → Term
flat_clause pairs variable ls =
    numbered_clause (number_in pairs)
    (λ x. variable (place_in bytes_eq (terms.firsts bytes_eq (literals_variables ls)) x)) ls

-- The symbols of both clauses have even numbers from 0 in the order of their first occurrence,
-- those of the first clause before those of the second.
abbrev pub clause_numbers : List Literal → List Literal → Numbering
clause_numbers c d =
    numbers_from 0 (terms.firsts same_symbol (literals_symbols c ++ literals_symbols d))

pub record FlattensClauses (c d : List Literal) (flat : List Cell × List Cell) : Type 0 where
  pub first : StandsFor flat.0 (flat_clause (clause_numbers c d) query c)
  pub second : StandsFor flat.1 (flat_clause (clause_numbers c d) entry d)
  pub complete : unnumbered (clause_numbers c d) (literals_symbols c ++ literals_symbols d) ≡ []
  pub numbering : IsNumbering (clause_numbers c d)

-- ---- one clause by a table
-- those of its symbols that the table lacks, each once, in the order of their first occurrence
abbrev pub lacked_by : Numbering → List Literal → List symbols.Symbol
lacked_by pairs ls = terms.firsts same_symbol (unnumbered pairs (literals_symbols ls))

-- The clause has the table's numbers for its symbols. Those that the table lacks are numbered
-- after these, whatever others follow them.
abbrev pub FlattensClause : Numbering → Owner → List Literal → List Cell → Type 0
FlattensClause pairs owner ls cells = (more : List symbols.Symbol)
    → StandsFor cells
    (flat_clause (pairs ++ extra_numbers (lacked_by pairs ls ++ more)) (owners_variable owner) ls)

-- what a buffer of clauses shows
pub record ClauseCells : Type 0 where
  pub cells : List Cell
  pub room : Room

-- The room is enough for the clause's cells, of which one is its head's; for its variables, and for
-- its symbols that the table lacks, each once.
pub record IsEnoughForClause (pairs : Numbering) (ls : List Literal) (room : Room) : Type 0 where
  pub cells : 1 + literals_size ls ≤ room.cells
  pub names : length (terms.firsts bytes_eq (literals_variables ls)) ≤ room.names
  pub symbols : length (lacked_by pairs ls) ≤ room.symbols

-- ---- a walk over literals
abbrev pub literals_piece : List Literal → WalkPiece
literals_piece ls = record {
  variables = literals_variables ls;
  symbols = literals_symbols ls;
  cells = λ number variable. cells_of_all (numbered_atoms number variable ls);
}

-- the symbols outside the table have numbers from this one on, and each literal has its own sign
abbrev pub clause_scheme : Owner → ℕ → Scheme
clause_scheme owner first = record { positive = true; owner = owner; first = first }

abbrev pub clause_piece : List Literal → WalkPiece
clause_piece ls = record {
  variables = literals_variables ls;
  symbols = literals_symbols ls;
  cells = λ number variable. cells_of (numbered_clause number variable ls);
}
