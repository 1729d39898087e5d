-- What stands in the canonical list of two terms that can be unified.
use Rattle.std.specs.Prelude.{false, ◌≡◌, ◌≢◌, ℕ, ◌^◌, ◌<◌, ◌⊎◌, ◌==◌, if◌then◌else◌, List, [], ◌∷◌, length, slice_index_or, Option, None, Some, Vec}
use Rattle.std.specs.List.{AllByRecursion}
use Rattle.si_defs.specs.Substitutions.{IsAmong}
use Rattle.si_defs.specs.Terms as terms
use Rattle.si_flat.specs.declared.Cell.{Cell}
use Rattle.si_flat.specs.Cells.{Symbol, Variable, same_variable, Term, Terms, IsSound, IsWhole, StandsFor}
use Rattle.si_flat.specs.declared.Owner.{Owner}
use Rattle.si_flat.specs.declared.Owner.TheVariants.{Query, Entry}
use Rattle.si_unify.specs.declared.slots.Slots.{Slots}
use Rattle.si_unify.specs.Solving.{Pairs, slot_count, slot_of, variable_of, IsSolvedBy}
use Rattle.si_form.specs.declared.solution.Binding.{Binding}
use Rattle.si_form.specs.Answers.{AreNumbered, owners_variables, StandsForList}
use Rattle.si_form.specs.Classes.{slots_of, LeavesUnbound, HasClasses}
use Rattle.si_form.specs.Folding.{leader, folded, Folded}
use Rattle.si_form.specs.Ordering.{list_of, uses_at, list_or_none, IsListed, AreOrdered}

-- the variables of the cells' term are so many of the owner's
abbrev pub HasVariables : Owner → List Cell → ℕ → Type 0
HasVariables owner cells n = (t : Term) → StandsFor cells t
    → terms.firsts same_variable (terms.variables t) ≡ owners_variables owner 0 n

-- a query whose variables are counted
pub record IsCounted (cells : List Cell) (variables : ℕ) : Type 0 where
  pub whole : IsWhole cells
  pub numbered : AreNumbered Query cells
  pub counted : HasVariables Query cells variables

abbrev pub IsApplication : Term → Type 0
IsApplication t = (s : Symbol) × (ts : Terms) × (t ≡ terms.app s ts)

module _ (slots : Slots) (f : Variable → Term) where
  -- a variable of the slots that f leaves
  abbrev pub StaysFree : Variable → Type 0
  StaysFree y = (j : ℕ) × (j < slot_count slots) × (y ≡ variable_of slots j) × (f y ≡ terms.var y)

  abbrev pub ImagesStay : Type 0
  ImagesStay = (k : ℕ) → k < slot_count slots
      → AllByRecursion StaysFree (terms.variables (f (variable_of slots k)))

  -- ---- right sides
  abbrev pub right_by : ℕ → Option ℕ → Term
  right_by k None = folded slots f (f (variable_of slots k))
  right_by k (Some w) =
      if w == k then folded slots f (f (variable_of slots k)) else terms.var (variable_of slots w)

  -- a follower's is its leader, a leader's its folded image
  abbrev pub right_side : ℕ → Term
  right_side k = right_by k (leader slots f (f (variable_of slots k)))

  -- a follower, or a leader whose image is no variable
  abbrev pub IsToBind : ℕ → Type 0
  IsToBind k =
      (k < slot_count slots)
      × (((w : ℕ) × (leader slots f (f (variable_of slots k)) ≡ Some w) × (w ≢ k))
      ⊎ ((leader slots f (f (variable_of slots k)) ≡ Some k)
      × IsApplication (f (variable_of slots k))))

  -- the cells are those of the slot's right side; there are none where it isn't to be bound
  abbrev pub IsRightSide : ℕ → Option (List Cell) → Type 0
  IsRightSide k None = IsToBind k → ⊥
  IsRightSide k (Some cells) = IsToBind k × StandsFor cells (right_side k)

  -- those of the first slots
  abbrev pub AreRightSides : {A : Type 0} → List (Option (Vec Cell A)) → Type 0
  AreRightSides rights = (k : ℕ) → k < length rights
      → IsRightSide k (list_of (slice_index_or rights k None))

-- the bindings of these slots, in order
abbrev pub listed_bindings : Slots → (ℕ → Term) → List ℕ → List (Variable × Term)
listed_bindings slots right [] = []
listed_bindings slots right (k ∷ ks) = (variable_of slots k, right k)
    ∷ listed_bindings slots right ks

-- ---- the map that solves the bindings and makes nothing equal but what they do
pub record IsGeneral (slots : Slots) (pairs : Pairs) (f : Variable → Term) : Type 0 where
  pub solves : IsSolvedBy slots pairs f
  pub leaves : LeavesUnbound slots pairs f
  pub stays : ImagesStay slots f
  pub sound : (k : ℕ) → k < slot_count slots → IsSound (f (variable_of slots k))

abbrev pub HasGeneral : Slots → Pairs → Type 0
HasGeneral slots pairs = (f : Variable → Term) × IsGeneral slots pairs f

-- an application of this size is made equal to the variable of the slot
pub record HasApplication (slots : Slots) (f : Variable → Term) (slot size : ℕ) : Type 0 where
  pub symbol : Symbol
  pub arguments : Terms
  pub image_is : f (variable_of slots slot) ≡ terms.substitute f (terms.app symbol arguments)
  pub known : AllByRecursion (λ y. (j : ℕ) × (j < slot_count slots) × (y ≡ variable_of slots j))
      (terms.variables_of_all arguments)
  pub size_is : terms.size (terms.app symbol arguments) ≡ size

abbrev pub IsBoundTo : Slots → Pairs → ℕ → Option ℕ → Type 0
IsBoundTo slots pairs slot None =
    (f : Variable → Term) → IsGeneral slots pairs f
    → (y : Variable) × (f (variable_of slots slot) ≡ terms.var y)
IsBoundTo slots pairs slot (Some size) =
    (size < 2 ^ 32)
    × ((f : Variable → Term) → IsGeneral slots pairs f → HasApplication slots f slot size)

-- ---- what is known of the classes that the bindings make
pub record AreFound (slots : Slots) (pairs : Pairs) (folding : Folded) : Type 0 where
  pub some : HasGeneral slots pairs
  pub classes_are : HasClasses slots pairs folding.nodes folding.classes

-- the right side of the slot, by the map that the bindings make
abbrev pub HasRightSide : Slots → Pairs → ℕ → Option (List Cell) → Type 0
HasRightSide slots pairs k right = (f : Variable → Term) → IsGeneral slots pairs f
    → IsRightSide slots f k right

abbrev pub HaveRightSides : {A : Type 0} → Slots → Pairs → List (Option (Vec Cell A)) → Type 0
HaveRightSides slots pairs rights = (f : Variable → Term) → IsGeneral slots pairs f
    → AreRightSides slots f rights

-- ---- the whole list
abbrev pub slots_among : Slots → Option (List Cell) → Option (List ℕ)
slots_among slots None = None
slots_among slots (Some cells) = Some (slots_of slots cells)

-- the lists are those of the slots in the right sides
abbrev pub AreUses : {A B : Type 0} → Slots → List (Option (Vec Cell A))
    → List (Option (Vec ℕ B)) → Type 0
AreUses slots rights lists = (k : ℕ) → k < length lists
    → uses_at lists k ≡ slots_among slots (list_of (slice_index_or rights k None))

-- each of these slots is to be bound, by some map
abbrev pub AreListed : {A : Type 0} → Slots → List (Option (Vec Cell A)) → List ℕ → Type 0
AreListed slots rights ks =
    (f : Variable → Term) × AreRightSides slots f rights × AllByRecursion (IsToBind slots f) ks

-- the bindings of these slots have these right sides, whatever terms these stand for
abbrev pub ListsBindings : {A : Type 0} → Slots → List (Option (Vec Cell A)) → List ℕ
    → List Binding → Type 0
ListsBindings slots rights ks bindings =
    (f : Variable → Term) → AreRightSides slots f rights → AllByRecursion (IsToBind slots f) ks
    → StandsForList bindings (listed_bindings slots (right_side slots f) ks)

-- the variables of a right side are those of the slots that are used
pub record HasUses (used : ℕ → Option (List ℕ)) (slots : Slots) (right : ℕ → Term)
    (k : ℕ) : Type 0 where
  pub uses : (x : Variable) → IsAmong (terms.variables (right k)) x
      → IsAmong (list_or_none (used k)) (slot_of slots x)
  pub used_in : (j : ℕ) → IsAmong (list_or_none (used k)) j
      → IsAmong (terms.variables (right k)) (variable_of slots j)

-- the bindings are those of all slots that are to be bound, ordered by what their right sides use
pub record IsWholeList (slots : Slots) (f : Variable → Term)
    (bindings : List Binding) : Type 0 where
  pub used : ℕ → Option (List ℕ)
  pub ks : List ℕ
  pub ordered : AreOrdered used ks
  pub to_bind : (k : ℕ) → IsListed used k → IsToBind slots f k
  pub of_bind : (k : ℕ) → IsToBind slots f k → IsListed used k
  pub has : (k : ℕ) → IsListed used k → HasUses used slots (right_side slots f) k
  pub stands : StandsForList bindings (listed_bindings slots (right_side slots f) ks)

abbrev pub ListsAllBindings : Slots → Pairs → List Binding → Type 0
ListsAllBindings slots pairs bindings = (f : Variable → Term) → IsGeneral slots pairs f
    → IsWholeList slots f bindings

-- ---- the slots of a query and an entry
-- all variables may be bound, and there are no others
pub record AreFree (slots : Slots) : Type 0 where
  pub none : slots.inds ≡ 0
  pub query : slots.freeze_query ≡ false
  pub entry : slots.freeze_entry ≡ false

pub record AreSlotsOf (query_cells entry_cells : List Cell) (slots : Slots) : Type 0 where
  pub free : AreFree slots
  pub query : HasVariables Query query_cells slots.query
  pub entry : HasVariables Entry entry_cells slots.entry
