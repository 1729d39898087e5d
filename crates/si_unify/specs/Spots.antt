-- Spots: places in the values of a list of bindings and in the two terms of a question.
use Rattle.std.specs.Prelude.{◌≡◌, ℕ, ◌+◌, ◌<◌, ◌≤◌, ◌==◌, if◌then◌else◌, ◌⊎◌, Bool, true, false, ◌&&◌, List, [], ◌∷◌, ◌++◌, drop, length, slice_get, slice_index_or as get_or, Option, None, Some}
use Rattle.std.specs.List.{AllByRecursion, IsDistinct, list_any}
use Rattle.std.specs.Borrow.{Bor}
use Rattle.si_defs.specs.Substitutions.{Grows}
use Rattle.si_defs.specs.Terms as terms
use Rattle.si_flat.specs.declared.Cell.{Cell}
use Rattle.si_flat.specs.declared.Cell.TheVariants as cell
use Rattle.si_flat.specs.Cells.{Symbol, Variable, query, entry, ind, Term, Terms, cells_of, IsSound, StandsFor, IsWhole}
use Rattle.si_trail.specs.Trails.{value_at, HasDistinctSlots}
use Rattle.si_unify.specs.declared.slots.Slots.{Slots}
use Rattle.si_unify.specs.declared.spots.Spot.{Spot}
use Rattle.si_unify.specs.declared.spots.SpotPair.{SpotPair}
use Rattle.si_unify.specs.declared.spots.Subterm.{Subterm}
use Rattle.si_unify.specs.declared.spots.Question.{Question}
use Rattle.si_unify.specs.Solving.{Pairs, slot_count, slot_of, Equalizes, IsSolvedBy, IsAcyclic, IsBinding, AreInRange, IsPieceOf, AreHandedIn}

abbrev pub cells_now : Option (Bor (List Cell)) → List Cell
cells_now None = []
cells_now (Some v) = v.now

-- the cells of a base: the first term, the second, or the value of a slot
abbrev pub text : Question → Pairs → ℕ → List Cell
text q pairs base =
    if base == slot_count q.slots then q.left.now
    else (if base == slot_count q.slots + 1 then q.right.now else cells_now (value_at pairs base))

-- a term stands at a place among cells
pub record IsAt (cells : List Cell) (at : ℕ) (t : Term) : Type 0 where
  pub after : List Cell
  pub from : drop at cells ≡ cells_of t ++ after
  pub sound : IsSound t

abbrev pub SpotStandsFor : Question → Pairs → Spot → Term → Type 0
SpotStandsFor q pairs spot t = IsAt (text q pairs spot.base) spot.at t

abbrev pub IsSpot : Question → Pairs → Spot → Type 0
IsSpot q pairs spot = (t : Term) × SpotStandsFor q pairs spot t

-- the cells are those of the term that stands at the spot
pub record IsSubterm (q : Question) (pairs : Pairs) (s : Subterm) : Type 0 where
  pub term : Term
  pub stands : SpotStandsFor q pairs s.spot term
  pub whole : StandsFor s.cells.now term

abbrev pub at_spot : Spot → Bor (List Cell) → Subterm
at_spot spot cells = record { spot = spot; cells = cells }

abbrev pub spots_of : Subterm → Subterm → SpotPair
spots_of left right = record { left = left.spot; right = right.spot }

-- where the two terms stand
abbrev pub left_spot : Question → Spot
left_spot q = record { base = slot_count q.slots; at = 0 }

abbrev pub right_spot : Question → Spot
right_spot q = record { base = slot_count q.slots + 1; at = 0 }

-- the slot of a variable's cell
abbrev pub cell_slot : Slots → Cell → Option ℕ
cell_slot slots (cell.App s a n) = None
cell_slot slots (cell.Query n) = Some (slot_of slots (query n))
cell_slot slots (cell.Entry n) = Some (slot_of slots (entry n))
cell_slot slots (cell.Ind n) = Some (slot_of slots (ind n))

-- that of a variable that isn't frozen
abbrev pub free_slot : Slots → Cell → Option ℕ
free_slot slots (cell.App s a n) = None
free_slot slots (cell.Query n) = if slots.freeze_query then None else Some (slot_of slots (query n))
free_slot slots (cell.Entry n) = if slots.freeze_entry then None else Some (slot_of slots (entry n))
free_slot slots (cell.Ind n) = Some (slot_of slots (ind n))

-- a chain of slots that are bound to bare variables comes down
abbrev pub ChainComesDown : (ℕ → ℕ) → ℕ → Option ℕ → Type 0
ChainComesDown rank slot None = Unit {0}
ChainComesDown rank slot (Some next) = rank next < rank slot

abbrev pub ComesDown : Slots → (ℕ → ℕ) → ℕ → List Cell → Type 0
ComesDown slots rank slot [] = Unit {0}
ComesDown slots rank slot (c ∷ cs) = ChainComesDown rank slot (cell_slot slots c)

pub record IsChained (slots : Slots) (pairs : Pairs) : Type 0 where
  pub rank : ℕ → ℕ
  pub few : (slot : ℕ) → rank slot ≤ length pairs
  pub positive : AllByRecursion (λ pair. 0 < rank pair.0) pairs
  pub down : AllByRecursion (λ pair. ComesDown slots rank pair.0 pair.1.now) pairs

-- what holds of the bindings and the two terms while an equation is being solved
pub record IsSoundQuestion (q : Question) (pairs : Pairs) : Type 0 where
  pub bindings : AllByRecursion (IsBinding q.slots) pairs
  pub left_whole : IsWhole q.left.now
  pub right_whole : IsWhole q.right.now
  pub left_in_range : AreInRange q.slots q.left.now
  pub right_in_range : AreInRange q.slots q.right.now
  pub chained : IsChained q.slots pairs

-- ---- what is known of a solution
-- the pairs of spots whose terms are no larger than n, as f makes them, are made equal
abbrev pub MakesEqual : Question → Pairs → (Variable → Term) → SpotPair → Type 0
MakesEqual q pairs f pair =
    (t u : Term) → SpotStandsFor q pairs pair.left t → SpotStandsFor q pairs pair.right u
    → terms.substitute f t ≡ terms.substitute f u

abbrev pub MakesEqualUpTo : Question → Pairs → (Variable → Term) → ℕ → SpotPair → Type 0
MakesEqualUpTo q pairs f n pair =
    (t u : Term) → SpotStandsFor q pairs pair.left t → SpotStandsFor q pairs pair.right u
    → terms.size (terms.substitute f t) ≤ n → terms.substitute f t ≡ terms.substitute f u

-- a pair of symbols' spots, whose heads are the same
abbrev pub head_symbol : Term → Option Symbol
head_symbol (terms.var x) = None
head_symbol (terms.app s ts) = Some s

pub record IsApart (q : Question) (pairs : Pairs) (pair : SpotPair) : Type 0 where
  pub symbol : Symbol
  pub left_arguments : Terms
  pub right_arguments : Terms
  pub left : SpotStandsFor q pairs pair.left (terms.app symbol left_arguments)
  pub right : SpotStandsFor q pairs pair.right (terms.app symbol right_arguments)

-- ---- what the steps do
-- the cell at a spot is a symbol's or an unbound variable's
abbrev pub IsUnbound : Pairs → Option ℕ → Type 0
IsUnbound pairs None = Unit {0}
IsUnbound pairs (Some slot) = value_at pairs slot ≡ None

-- no bound variable's cell
abbrev pub CellIsUnbound : Slots → Pairs → Cell → Type 0
CellIsUnbound slots pairs c = IsUnbound pairs (cell_slot slots c)

abbrev pub cell_at : Question → Pairs → Spot → Cell
cell_at q pairs spot = get_or (text q pairs spot.base) spot.at (cell.App 0 0 0)

abbrev pub slot_at : Question → Pairs → Spot → Option ℕ
slot_at q pairs spot = cell_slot q.slots (cell_at q pairs spot)

-- a spot at the end of its chain
pub record IsEnd (q : Question) (pairs : Pairs) (spot : Spot) : Type 0 where
  pub spot_is : IsSpot q pairs spot
  pub ends : IsUnbound pairs (slot_at q pairs spot)

-- the spot has come down its chain of bound variables to another, which each solution makes equal
pub record ComesTo (q : Question) (pairs : Pairs) (t : Term) (spot : Spot) : Type 0 where
  pub term : Term
  pub stands : SpotStandsFor q pairs spot term
  pub same : (f : Variable → Term) → IsSolvedBy q.slots pairs f
      → terms.substitute f t ≡ terms.substitute f term
  pub ends : IsUnbound pairs (slot_at q pairs spot)

-- ---- the pairs of spots that came up
abbrev pub same_spots : SpotPair → SpotPair → Bool
same_spots p k = (p.left.base == k.left.base && p.left.at == k.left.at)
    && (p.right.base == k.right.base && p.right.at == k.right.at)

-- the pair stands among them, and none but it was added
pub record IsAdded (old : List SpotPair) (pair : SpotPair) (new : List SpotPair) : Type 0 where
  pub more : (new ≡ old) ⊎ (new ≡ old ++ pair ∷ [])
  pub place : ℕ
  pub there : slice_get new place ≡ Some pair

-- they fill the room, each is there once, and the pair isn't among them
pub record HasNoRoomFor (keys : List SpotPair) (room : ℕ) (pair : SpotPair) : Type 0 where
  pub full : room ≤ length keys
  pub distinct : IsDistinct same_spots keys
  pub absent : list_any (same_spots pair) keys ≡ false

abbrev pub ArePairs : Question → Pairs → List SpotPair → Type 0
ArePairs q pairs = AllByRecursion (IsApart q pairs)

-- The two terms t and u are made equal by the new bindings, once the pairs are whose terms are no
-- larger than t; and each solution of the old ones that makes them equal is a solution of the new
-- ones.
pub record Meets (q : Question) (old new : Pairs) (old_keys new_keys : List SpotPair)
    (t u : Term) : Type 0 where
  pub sound :
      (f : Variable → Term)
      → IsSolvedBy q.slots new f
      → AllByRecursion (MakesEqualUpTo q new f (terms.size (terms.substitute f t))) new_keys
      → terms.substitute f t ≡ terms.substitute f u
  pub complete :
      (f : Variable → Term)
      → IsSolvedBy q.slots old f
      → AllByRecursion (MakesEqual q old f) old_keys
      → terms.substitute f t ≡ terms.substitute f u
      → IsSolvedBy q.slots new f × AllByRecursion (MakesEqual q new f) new_keys

-- no solution makes the two terms equal
abbrev pub Refutes : Question → Pairs → Term → Term → Type 0
Refutes q pairs t u = (f : Variable → Term) → IsSolvedBy q.slots pairs f
    → terms.substitute f t ≡ terms.substitute f u → ⊥

-- what is kept while an equation is being solved
pub record IsGoingOn (q : Question) (old new : Pairs)
    (old_keys new_keys : List SpotPair) : Type 0 where
  pub grows : Grows old new
  pub keys_grow : Grows old_keys new_keys
  pub legal : IsSoundQuestion q new
  pub keys : ArePairs q new new_keys
  pub handed_in : AreHandedIn old new q.left.now q.right.now

-- the slot has been bound to what stands at the spot
pub record Binds (q : Question) (old new : Pairs) (slot : ℕ) (spot : Spot) : Type 0 where
  pub value : Bor (List Cell)
  pub pairs : new ≡ old ++ (slot, value) ∷ []
  pub whole : (u : Term) → SpotStandsFor q old spot u → StandsFor value.now u
  pub in_range : AreInRange q.slots value.now
  pub piece : IsPieceOf (text q old spot.base) value.now

abbrev pub same_slot : Option ℕ → Option ℕ → Bool
same_slot (Some m) (Some n) = m == n
same_slot _ _ = false

-- the outcome of meeting: the two spots' terms are made equal, or none makes them equal
abbrev pub HasMetSpots : Question → Pairs → Pairs → List SpotPair → List SpotPair → Spot → Spot
    → Bool → Type 0
HasMetSpots q old new old_keys new_keys left right true =
    IsGoingOn q old new old_keys new_keys
    × ((t u : Term) → SpotStandsFor q old left t → SpotStandsFor q old right u
    → Meets q old new old_keys new_keys t u)
HasMetSpots q old new old_keys new_keys left right false = (t u : Term) → SpotStandsFor q old left t
    → SpotStandsFor q old right u → Refutes q old t u

-- two terms that are equal for each solution that makes the pairs equal whose terms are smaller
abbrev pub Follows : Question → Pairs → List SpotPair → SpotPair → Type 0
Follows q pairs keys pair =
    (t u : Term) → SpotStandsFor q pairs pair.left t → SpotStandsFor q pairs pair.right u
    → (f : Variable → Term) → IsSolvedBy q.slots pairs f
    → ((n : ℕ) → n < terms.size (terms.substitute f t)
    → AllByRecursion (MakesEqualUpTo q pairs f n) keys)
    → terms.substitute f t ≡ terms.substitute f u

abbrev pub HasCompared : Question → Pairs → Pairs → List SpotPair → List SpotPair → SpotPair
    → Bool → Type 0
HasCompared q old new old_keys new_keys pair true =
    IsGoingOn q old new old_keys new_keys
    × Follows q new new_keys pair
    × ((f : Variable → Term) → IsSolvedBy q.slots old f
    → AllByRecursion (MakesEqual q old f) old_keys → MakesEqual q old f pair
    → IsSolvedBy q.slots new f × AllByRecursion (MakesEqual q new f) new_keys)
HasCompared q old new old_keys new_keys pair false =
    (f : Variable → Term) → IsSolvedBy q.slots old f → AllByRecursion (MakesEqual q old f) old_keys
    → MakesEqual q old f pair → ⊥

-- The new bindings make each pair equal; and each solution of the old ones that makes them equal is
-- a solution of the new ones.
abbrev pub HasClosed : Question → Pairs → Pairs → List SpotPair → Bool → Type 0
HasClosed q old new keys true =
    IsSoundQuestion q new
    × ((f : Variable → Term) → IsSolvedBy q.slots new f → AllByRecursion (MakesEqual q new f) keys)
    × ((f : Variable → Term) → IsSolvedBy q.slots old f → AllByRecursion (MakesEqual q old f) keys
    → IsSolvedBy q.slots new f)
    × AreHandedIn old new q.left.now q.right.now
HasClosed q old new keys false = (f : Variable → Term) → IsSolvedBy q.slots old f
    → AllByRecursion (MakesEqual q old f) keys → ⊥

-- The new bindings are legal, and solved by just those that solve the old ones and make the two
-- terms equal.
abbrev pub HasAnswered : Question → Pairs → Pairs → Bool → Type 0
HasAnswered q old new true =
    AllByRecursion (IsBinding q.slots) new
    × IsAcyclic q.slots new
    × ((f : Variable → Term) → IsSolvedBy q.slots new f → Equalizes f q.left.now q.right.now)
    × ((f : Variable → Term) → IsSolvedBy q.slots old f → Equalizes f q.left.now q.right.now
    → IsSolvedBy q.slots new f)
    × HasDistinctSlots new
    × AreHandedIn old new q.left.now q.right.now
HasAnswered q old new false = (f : Variable → Term) → IsSolvedBy q.slots old f
    → Equalizes f q.left.now q.right.now → ⊥
