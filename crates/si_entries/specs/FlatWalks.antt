-- Where a walk through the flat terms of a clause's entries stands, and what it gives.
use Rattle.std.specs.Prelude.{◌≡◌, ℕ, ◌<◌, ◌≤◌, Bool, true, false, List, [], ◌∷◌, ◌++◌, length, drop, map, Option, None, Some, bytes_eq}
use Rattle.std.specs.List.{AllByRecursion}
use Rattle.si_defs.specs.Bytes.{Bytes}
use Rattle.si_defs.specs.Terms.{variables_of_all}
use Rattle.si_defs.specs.Symbols.{Numbering}
use Rattle.si_defs.specs.Substitutions.{IsAmong}
use Rattle.si_defs.specs.Clauses.{Terms, Literal, Clause, AreSoundTerms, AreSoundLiterals}
use Rattle.si_defs.specs.Entries.{Entry, term_entry, literals_symbols, clause_symbols}
use Rattle.si_defs.specs.declared.TheConstants.{MOST_OCCURRENCES}
use Rattle.si_term.specs.Meaning.{literal_of}
use Rattle.si_term.specs.Walks.{subterms_of_all, entries_alone}
use Rattle.si_flat.specs.declared.Cell.{Cell}
use Rattle.si_flat.specs.declared.Cell.TheVariants as cell
use Rattle.si_flat.specs.Cells.{Variable, entry, cells_of_all, IsWhole}
use Rattle.si_flat.specs.Numbered.{number_in, signed, place_in, all_numbered}
use Rattle.si_flat.specs.Flattened.{unnumbered, numbered_entry, IsFlatOf}
use Rattle.si_legal.specs.Legal.{IsLeafTerm}
use Rattle.si_legal.specs.KeptTrees.{is_literal}
use Rattle.si_entries.specs.declared.flat.FlatEntries.{FlatEntries}

-- ---- cells
-- those from the first symbol on
abbrev pub from_symbol : List Cell → List Cell
from_symbol [] = []
from_symbol (cell.App sym arity len ∷ cells) = cell.App sym arity len ∷ cells
from_symbol (c ∷ cells) = from_symbol cells

-- ---- what is left
-- a variable by its place among these names
abbrev pub variable_in : List Bytes → Bytes → Variable
variable_in names x = entry (place_in bytes_eq names x)

-- the literals after the one that it is in
abbrev pub literals_left : FlatEntries → List Literal
literals_left f = map literal_of f.literals.now

-- These terms are left of a literal with this sign, whose variables have these names: the cells
-- from the place on are theirs.
pub record AreTermsLeft (numbers : Numbering) (positive : Bool) (terms : Terms)
    (cells : List Cell) (names : List Bytes) (at : ℕ) : Type 0 where
  pub cells_are : drop at cells
      ≡ cells_of_all (all_numbered (signed positive (number_in numbers)) (variable_in names) terms)
  pub within : at ≤ length cells
  pub sound : AreSoundTerms terms
  pub names_known : AllByRecursion (IsAmong names) (variables_of_all terms)
  pub whole : 0 < length cells → IsWhole cells
  pub few : length cells ≤ MOST_OCCURRENCES

-- these literals may be made flat by these numbers
pub record AreLiteralsLeft (numbers : Numbering) (literals : List Literal) : Type 0 where
  pub sound : AreSoundLiterals literals
  pub numbered : unnumbered numbers (literals_symbols literals) ≡ []

-- These entries are left, without their places. Their symbols have these numbers.
pub record AreLeft (numbers : Numbering) (f : FlatEntries) (left : List Entry) : Type 0 where
  pub positive : Bool
  pub terms : Terms
  pub terms_left : AreTermsLeft numbers positive terms f.literal.cells f.literal.names f.at
  pub literals_are_left : AreLiteralsLeft numbers (literals_left f)
  pub entries : left ≡ map term_entry (subterms_of_all terms) ++ entries_alone (literals_left f)

-- by any numbers in which each symbol of the clause has one, all entries are left
abbrev pub AreLeftAtStart : Clause → FlatEntries → Type 0
AreLeftAtStart c f =
    (numbers : Numbering) → unnumbered numbers (clause_symbols c) ≡ []
    → AreLeft numbers f (entries_alone c.literals)

-- ---- what is given
-- the cells are the entry's, and its term may be that of a leaf
pub record IsFlatEntry (numbers : Numbering) (e : Entry) (cells : List Cell) : Type 0 where
  pub flat : IsFlatOf numbers entry e cells
  pub leaf : IsLeafTerm (numbered_entry numbers entry e)

-- the first of those that are left was given
pub record GivesFirst (numbers : Numbering) (new : FlatEntries) (literal : Bool)
    (left : List Entry) : Type 0 where
  pub given : Entry
  pub others : List Entry
  pub first : left ≡ given ∷ others
  pub are_left : AreLeft numbers new others
  pub kind : is_literal given ≡ literal
  pub flat : IsFlatEntry numbers given new.cells.items

-- the same, or none was left
abbrev pub GivesNext : Numbering → FlatEntries → Option Bool → List Entry → Type 0
GivesNext numbers new None left = left ≡ []
GivesNext numbers new (Some literal) left = GivesFirst numbers new literal left

-- a call gives the first of whatever was left before it
abbrev pub GivesFlat : Numbering → FlatEntries → FlatEntries → Option Bool → Type 0
GivesFlat numbers old new o =
    (left : List Entry) → AreLeft numbers old left → GivesNext numbers new o left

-- no subterm is left of the literal
abbrev pub IsAtLiteralEnd : Numbering → FlatEntries → List Entry → Type 0
IsAtLiteralEnd numbers f left =
    AreLiteralsLeft numbers (literals_left f) × (left ≡ entries_alone (literals_left f))

-- the next subterm is given, or none is left of the literal
abbrev pub GivesSubterm : FlatEntries → FlatEntries → Bool → Type 0
GivesSubterm old new true =
    (numbers : Numbering) (left : List Entry)
    → AreLeft numbers old left → GivesFirst numbers new false left
GivesSubterm old new false =
    (numbers : Numbering) (left : List Entry)
    → AreLeft numbers old left → IsAtLiteralEnd numbers new left
