-- The kept clauses that subsume a formula, and those that it subsumes: by position, each with its
-- map.
use Rattle.std.specs.Prelude.{◌≡◌, ◌⊎◌, ℕ, ◌≤◌, suc, List, [], ◌∷◌, ◌++◌, length, slice_get, Some}
use Rattle.std.specs.List.{AllByRecursion}
use Rattle.si_defs.specs.Clauses.{Literal, Clause}
use Rattle.si_defs.specs.Symbols.{Numbering, IsNumbering}
use Rattle.si_defs.specs.declared.TheConstants.{MOST_OCCURRENCES}
use Rattle.si_state.specs.Signatures.{numbering}
use Rattle.si_state.specs.Subsumption.{IsMap, IsLeast}
use Rattle.si_flat.specs.declared.Owner.{Owner}
use Rattle.si_flat.specs.declared.Owner.TheVariants.{Query, Entry}
use Rattle.si_flat.specs.FlatClauses.{FlattensClause}
use Rattle.si_flat.specs.Numbered.{number_in}
use Rattle.si_term.specs.Meaning.{clause_of}
use Rattle.si_term.specs.declared.clause.Clause as term
use Rattle.si_keyed.specs.Placed.{placed_items, HasPlace, PlacesRise}
use Rattle.si_lanes.specs.Rows.{IsSubset, AppendsPositions}
use Rattle.si_screen.specs.ClauseRows.{IsRowOf, lacking, with_extra}
use Rattle.si_index.specs.Kept.{clauses_of}
use Rattle.si_index.specs.Searching.{IsKnownClause}
use Rattle.si_index.specs.Slots.{Slots}
use Rattle.si_index.specs.declared.subsuming.Direction.{Direction}
use Rattle.si_index.specs.declared.subsuming.Direction.TheVariants.{ToFormula, FromFormula}
use Rattle.si_index.specs.declared.subsuming.FlatFormula.{FlatFormula}
use Rattle.si_index.specs.declared.subsuming.Mapped.{Mapped}

-- From this position on, of these clauses exactly those whose literals have a map are named, each
-- with the least.
abbrev pub AreMappedFrom : (List Literal → List ℕ → Type 0) → ℕ → List Clause → List Mapped → Type 0
AreMappedFrom P k [] ms = ms ≡ []
AreMappedFrom P k (c ∷ cs) ms =
    ((m : Mapped) × (others : List Mapped) × (m.clause ≡ k) × IsLeast (P c.literals) m.map
    × AreMappedFrom P (suc k) cs others × (ms ≡ m ∷ others))
    ⊎ (((ns : List ℕ) → P c.literals ns → ⊥) × AreMappedFrom P (suc k) cs ms)

-- what maps go from, and what they go to
abbrev pub from_to : {A : Type 0} → Direction → (formula clause : A) → A × A
from_to ToFormula formula clause = (clause, formula)
from_to FromFormula formula clause = (formula, clause)

-- a map from the literals of a clause to those of the formula, or the other way
abbrev pub IsMapIn : Direction → List Literal → List Literal → List ℕ → Type 0
IsMapIn direction formula ls =
    IsMap (from_to direction formula ls).0 (from_to direction formula ls).1

-- The formula's variables are an entry's where clauses are taken to it, and else a query's.
abbrev pub formula_owner : Direction → Owner
formula_owner ToFormula = Entry
formula_owner FromFormula = Query

-- and a clause's the other way round
abbrev pub clause_owner : Direction → Owner
clause_owner ToFormula = Query
clause_owner FromFormula = Entry

-- the cells are the formula's, by the numbers of the signature
pub record IsFlatFormula (direction : Direction) (formula : List Literal)
    (flat : FlatFormula) : Type 0 where
  pub cells_are : FlattensClause (numbering flat.signature.now) (formula_owner direction) formula
      flat.cells.now
  pub numbered : IsNumbering (numbering flat.signature.now)

-- The clause at this position was tried: it is named after the others if it has a map, and with
-- the least.
abbrev pub TriesAtPosition : (List Literal → List ℕ → Type 0) → ℕ → Clause → List Mapped
    → List Mapped → Type 0
TriesAtPosition P k c old new =
    ((m : Mapped) × (m.clause ≡ k) × IsLeast (P c.literals) m.map × (new ≡ old ++ m ∷ []))
    ⊎ (((ns : List ℕ) → P c.literals ns → ⊥) × (new ≡ old))

abbrev pub HasMap : (List Literal → List ℕ → Type 0) → Clause → Type 0
HasMap P c = (ns : List ℕ) × P c.literals ns

-- the clause's row is a subset of the formula's, or the other way round
abbrev pub PassesIn : Direction → (formula : List ℕ) → (row : List ℕ) → Type 0
PassesIn ToFormula formula row = IsSubset row formula
PassesIn FromFormula formula row = IsSubset formula row

-- it is the row of the formula, with numbers after these for the symbols that have none
abbrev pub IsFormulaRow : Numbering → List Literal → List ℕ → Type 0
IsFormulaRow numbers formula row =
    IsRowOf (number_in (with_extra numbers (lacking numbers formula))) formula row

-- these are the slots whose rows allow a map
pub record ArePassing (numbers : Numbering) (direction : Direction) (formula : List Literal)
    (rows : List (List ℕ)) (slots : List ℕ) : Type 0 where
  pub row : List ℕ
  pub of_formula : IsFormulaRow numbers formula row
  pub appended : AppendsPositions (PassesIn direction row) rows [] slots

-- ---- trying clauses
-- the clauses in the slots are sound, and their symbols have numbers
pub record AreKnownSlots (numbers : Numbering) (slots : Slots) : Type 0 where
  pub clauses : AllByRecursion (IsKnownClause numbers) (clauses_of (placed_items slots))
  pub few : length slots ≤ MOST_OCCURRENCES
  pub rise : PlacesRise slots

-- the clause in this slot was tried, if there is one
abbrev pub TriesSlot : (List Literal → List ℕ → Type 0) → Slots → ℕ → List Mapped
    → List Mapped → Type 0
TriesSlot P slots slot old new =
    ((n key : ℕ) × (c : term.Clause) × (slice_get slots n ≡ Some (slot, (key, c)))
    × TriesAtPosition P n (clause_of c) old new)
    ⊎ ((HasPlace slots slot → ⊥) × (new ≡ old))

-- the clauses in these slots were tried, one after the other
abbrev pub TriesSlots : (List Literal → List ℕ → Type 0) → Slots → List ℕ → List Mapped
    → List Mapped → Type 0
TriesSlots P slots [] old new = new ≡ old
TriesSlots P slots (q ∷ qs) old new =
    (between : List Mapped) × TriesSlot P slots q old between × TriesSlots P slots qs between new
