-- Solving equations between flat terms over a list of bindings, each of a slot and a whole slice.
use Rattle.std.specs.Prelude.{◌≡◌, ℕ, ◌+◌, ◌-◌, ◌<◌, ◌≤◌, ◌↔◌, ◌⊎◌, nat_lt, Bool, true, false, if◌then◌else◌, List, [], ◌∷◌, ◌++◌}
use Rattle.std.specs.List.{AllByRecursion}
use Rattle.std.specs.Borrow.{Bor}
use Rattle.si_defs.specs.Terms as terms
use Rattle.si_defs.specs.Substitutions.{Substitution, image}
use Rattle.si_flat.specs.declared.Cell.{Cell}
use Rattle.si_flat.specs.declared.Cell.TheVariants as cell
use Rattle.si_flat.specs.Cells.{Symbol, Variable, query, entry, ind, same_variable, Term, variable_cell, StandsFor, IsWhole}
use Rattle.si_unify.specs.declared.slots.Slots.{Slots}

-- bindings: slots with whole slices
abbrev pub Pairs : Type 0
Pairs = List (ℕ × Bor (List Cell))

-- ---- variables and their slots
abbrev pub slot_count : Slots → ℕ
slot_count slots = slots.query + slots.entry + slots.inds

-- the slots of the query's variables come first, then those of the entry's, then those of the
-- indicators
abbrev pub slot_of : Slots → Variable → ℕ
slot_of slots (query n) = n
slot_of slots (entry n) = slots.query + n
slot_of slots (ind n) = slots.query + slots.entry + n

abbrev pub variable_of : Slots → ℕ → Variable
variable_of slots k =
    if nat_lt k slots.query then query k
    else (if nat_lt k (slots.query + slots.entry) then entry (k - slots.query)
    else ind (k - slots.query - slots.entry))

abbrev pub IsInRange : Slots → Variable → Type 0
IsInRange slots (query n) = n < slots.query
IsInRange slots (entry n) = n < slots.entry
IsInRange slots (ind n) = n < slots.inds

-- a frozen variable is a constant
abbrev pub is_frozen : Slots → Variable → Bool
is_frozen slots (query n) = slots.freeze_query
is_frozen slots (entry n) = slots.freeze_entry
is_frozen slots (ind n) = false

-- the variables of the cells are in range
abbrev pub CellIsInRange : Slots → Cell → Type 0
CellIsInRange slots (cell.App s arity n) = Unit {0}
CellIsInRange slots (cell.Query n) = n < slots.query
CellIsInRange slots (cell.Entry n) = n < slots.entry
CellIsInRange slots (cell.Ind n) = n < slots.inds

abbrev pub AreInRange : Slots → List Cell → Type 0
AreInRange slots = AllByRecursion (CellIsInRange slots)

-- ---- solutions: what takes each variable to a term
-- f makes the two slices equal
abbrev pub Equalizes : (Variable → Term) → List Cell → List Cell → Type 0
Equalizes f left right = (t u : Term) → StandsFor left t → StandsFor right u
    → terms.substitute f t ≡ terms.substitute f u

-- f makes the variable of each slot equal to its value, and leaves frozen variables as they are
pub record IsSolvedBy (slots : Slots) (pairs : Pairs) (f : Variable → Term) : Type 0 where
  pub frozen : (x : Variable) → is_frozen slots x ≡ true → f x ≡ terms.var x
  pub equal : AllByRecursion
      (λ pair. Equalizes f (variable_cell (variable_of slots pair.0) ∷ []) pair.1.now) pairs

-- ---- legal lists of bindings
-- each variable of a value has a smaller number than the slot of the value; so the pairs can be put
-- in an order in which no left side stands in its own right side or in one after it
abbrev pub RanksBelow : Slots → (ℕ → ℕ) → ℕ → Cell → Type 0
RanksBelow slots rank slot (cell.App s arity n) = Unit {0}
RanksBelow slots rank slot (cell.Query n) = rank (slot_of slots (query n)) < rank slot
RanksBelow slots rank slot (cell.Entry n) = rank (slot_of slots (entry n)) < rank slot
RanksBelow slots rank slot (cell.Ind n) = rank (slot_of slots (ind n)) < rank slot

abbrev pub IsTriangularBy : Slots → (ℕ → ℕ) → Pairs → Type 0
IsTriangularBy slots rank =
    AllByRecursion (λ pair. AllByRecursion (RanksBelow slots rank pair.0) pair.1.now)

abbrev pub IsAcyclic : Slots → Pairs → Type 0
IsAcyclic slots pairs = (rank : ℕ → ℕ) × IsTriangularBy slots rank pairs

-- one binding: the slot is one of an unfrozen variable, and the value is whole and in range
pub record IsBinding (slots : Slots) (pair : ℕ × Bor (List Cell)) : Type 0 where
  pub below : pair.0 < slot_count slots
  pub unfrozen : is_frozen slots (variable_of slots pair.0) ≡ false
  pub whole : IsWhole pair.1.now
  pub in_range : AreInRange slots pair.1.now

-- what the solver asks of a trail with so many slots
pub record AllowsSolving (slots : Slots) (pairs : Pairs) (count : ℕ) : Type 0 where
  pub room : slot_count slots ≤ count
  pub bindings : AllByRecursion (IsBinding slots) pairs
  pub triangular : IsAcyclic slots pairs

-- ---- where values come from
-- the piece is a slice of the cells
pub record IsPieceOf (cells piece : List Cell) : Type 0 where
  pub before : List Cell
  pub after : List Cell
  pub whole : cells ≡ before ++ piece ++ after

-- a slice of the value of one of the pairs
abbrev pub IsPieceOfValue : Pairs → List Cell → Type 0
IsPieceOfValue [] piece = ⊥
IsPieceOfValue (pair ∷ pairs) piece = IsPieceOf pair.1.now piece ⊎ IsPieceOfValue pairs piece

-- a slice of one of the two terms or of a value
abbrev pub IsHandedIn : Pairs → List Cell → List Cell → List Cell → Type 0
IsHandedIn pairs left right piece =
    IsPieceOf left piece ⊎ (IsPieceOf right piece ⊎ IsPieceOfValue pairs piece)

-- each value of the new list is a slice of one of the two terms or of a value of the old list
abbrev pub AreHandedIn : Pairs → Pairs → List Cell → List Cell → Type 0
AreHandedIn old new left right =
    AllByRecursion (λ pair. IsHandedIn old left right pair.1.now) new

-- ---- what solving tells
abbrev pub IsSolution : Slots → Pairs → Substitution Symbol Variable → Type 0
IsSolution slots pairs s = IsSolvedBy slots pairs (image same_variable s)

-- a solution of the list that also makes the two terms equal
abbrev pub IsCommon : Slots → Pairs → List Cell → List Cell → Substitution Symbol Variable → Type 0
IsCommon slots pairs left right s =
    IsSolution slots pairs s × Equalizes (image same_variable s) left right

abbrev pub HaveCommon : Slots → Pairs → List Cell → List Cell → Type 0
HaveCommon slots pairs left right =
    (s : Substitution Symbol Variable) × IsCommon slots pairs left right s

-- `true`: some solution of the old list makes the two terms equal, and a substitution is a solution
-- of the new list just where it is such a one. `false`: there is none.
abbrev pub HasSolved : Slots → Pairs → Pairs → List Cell → List Cell → Bool → Type 0
HasSolved slots old new left right true =
    HaveCommon slots old left right
    × ((s : Substitution Symbol Variable) → IsSolution slots new s
    ↔ IsCommon slots old left right s)
HasSolved slots old new left right false = HaveCommon slots old left right → ⊥
