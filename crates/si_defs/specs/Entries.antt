-- What a query looks through: the literals and subterms of clauses (MathWebSearch's queries over
-- all subterms).
use Rattle.std.specs.Prelude.{ℕ, ◌+◌, List, [], ◌∷◌, ◌++◌, map, flat_map, bytes_eq, Option}
use Rattle.si_defs.specs.Bytes.{Bytes}
use Rattle.si_defs.specs.Terms as terms
use Rattle.si_defs.specs.Symbols.{Symbol}
use Rattle.si_defs.specs.Clauses.{Term, Literal, Clause, Pattern, literal_pattern, term_pattern}

pub data Entry : Type 0 where
  literal_entry : Literal → Entry
  term_entry : Term → Entry

-- an entry's own term: the atom of a literal, or the term
abbrev pub whole_of : Entry → Term
whole_of (literal_entry l) = l.atom
whole_of (term_entry t) = t

-- the variables of an entry, each once, in the order of their first occurrence
abbrev pub distinct_variables : Entry → List Bytes
distinct_variables e = terms.firsts bytes_eq (terms.variables (whole_of e))

-- the symbol at the head of an entry: of a literal's atom, or of a term
abbrev pub entry_head : Entry → Option Symbol
entry_head e = terms.head (whole_of e)

-- the pattern as an entry
abbrev pub pattern_entry : Pattern → Entry
pattern_entry (literal_pattern l) = literal_entry l
pattern_entry (term_pattern t) = term_entry t

-- where an entry stands in its clause: the literal's number from 1, and the path from the atom
pub record Place : Type 0 where
  pub literal : ℕ
  pub path : List ℕ

-- an entry at its place
pub record Placed : Type 0 where
  pub entry : Entry
  pub place : Place

-- the proper subterms of an atom that are no variables
abbrev pub proper_occurrences : Term → List (List ℕ × Term)
proper_occurrences (terms.var x) = []
proper_occurrences (terms.app s ts) = terms.occurrences_from 1 ts

abbrev pub placed_term : ℕ → List ℕ × Term → Placed
placed_term number (path, t) =
    record { entry = term_entry t; place = record { literal = number; path = path } }

-- those of the literal with this number: the literal itself, and then its atom's proper subterms in
-- preorder
abbrev pub literal_entries : ℕ → Literal → List Placed
literal_entries number l =
    record { entry = literal_entry l; place = record { literal = number; path = [] } }
    ∷ map (placed_term number) (proper_occurrences l.atom)

abbrev pub entries_from : ℕ → List Literal → List Placed
entries_from number [] = []
entries_from number (l ∷ ls) = literal_entries number l ++ entries_from (1 + number) ls

-- the entries of a clause, in order
abbrev pub entries : Clause → List Placed
entries c = entries_from 1 c.literals

-- the occurrences of variables in these literals
abbrev pub literals_variables : List Literal → List Bytes
literals_variables ls = flat_map (λ l. terms.variables l.atom) ls

-- The occurrences of symbols in a clause, in the order of its entries: each is the head of one of
-- them.
abbrev pub literals_symbols : List Literal → List Symbol
literals_symbols [] = []
literals_symbols (l ∷ ls) = terms.symbols l.atom ++ literals_symbols ls

abbrev pub clause_symbols : Clause → List Symbol
clause_symbols c = literals_symbols c.literals

-- the occurrences of symbols in a list of clauses, in order
abbrev pub state_symbols : List Clause → List Symbol
state_symbols [] = []
state_symbols (c ∷ cs) = clause_symbols c ++ state_symbols cs

-- the entries of a list of clauses, in order, each with its clause
abbrev pub placed_in : Clause → Placed → Clause × Placed
placed_in c e = (c, e)

abbrev pub state_entries : List Clause → List (Clause × Placed)
state_entries [] = []
state_entries (c ∷ cs) = map (placed_in c) (entries c) ++ state_entries cs
