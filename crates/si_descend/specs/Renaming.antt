-- Lists of bindings that rename the variables of an entry.
use Rattle.std.specs.Prelude.{◌≡◌, ℕ, ◌<◌, Bool, true, false, ⊤, List, [], ◌∷◌, ◌++◌, Option, None, Some, is_some, map, take}
use Rattle.si_defs.specs.Terms as terms
use Rattle.si_defs.specs.Substitutions.{Substitution, image}
use Rattle.si_trail.specs.Trails.{Trail, value_at, IsSlotOf}
use Rattle.si_flat.specs.Cells.{Symbol, Variable, query, entry, same_variable}
use Rattle.si_unify.specs.declared.slots.Slots.{Slots}
use Rattle.si_unify.specs.Solving.{Pairs, variable_of, IsSolution}
use Rattle.si_legal.specs.OpenNodes.{RenamesEntry}
use Rattle.si_descend.specs.declared.variants.Became.{Became}
use Rattle.si_descend.specs.declared.variants.Became.TheVariants.{NoEntry, Variable as Same, Term as Other}

-- only the query's variables are constants
abbrev pub FreezesQuery : Slots → Type 0
FreezesQuery slots = (slots.freeze_query ≡ true) × (slots.freeze_entry ≡ false)

-- the variables that these bind
abbrev pub bound_variables : Slots → Pairs → List Variable
bound_variables slots pairs = map (λ p. variable_of slots p.0) pairs

-- each solution takes the entry's variables among those that the first so many bind to variables,
-- different ones to different ones
abbrev pub IsRenamingFirst : Slots → Pairs → ℕ → Type 0
IsRenamingFirst slots pairs n =
    (s : Substitution Symbol Variable) → IsSolution slots pairs s
    → RenamesEntry (bound_variables slots (take n pairs)) s

abbrev pub IsRenaming : Slots → Pairs → Type 0
IsRenaming slots pairs =
    (s : Substitution Symbol Variable) → IsSolution slots pairs s
    → RenamesEntry (bound_variables slots pairs) s

-- ---- one binding
-- the binding with this number is of this variable of the entry
pub record BindsEntry (slots : Slots) (pairs : Pairs) (n m : ℕ) : Type 0 where
  pub slot : ℕ
  pub is_slot : IsSlotOf pairs n slot
  pub variable : variable_of slots slot ≡ entry m

abbrev pub HasBecome : Slots → Pairs → ℕ → Became → Type 0
HasBecome slots pairs n NoEntry = (m : ℕ) → BindsEntry slots pairs n m → ⊥
HasBecome slots pairs n (Same k) =
    (m : ℕ) × BindsEntry slots pairs n m
    × ((s : Substitution Symbol Variable) → IsSolution slots pairs s
    → image same_variable s (entry m) ≡ terms.var (query k))
HasBecome slots pairs n Other =
    (m : ℕ) × BindsEntry slots pairs n m
    × ((s : Substitution Symbol Variable) × IsSolution slots pairs s
    × ((y : Variable) → image same_variable s (entry m) ≡ terms.var y → ⊥))

-- the query has a variable with this number
abbrev pub IsNumberInRange : Slots → Became → Type 0
IsNumberInRange slots NoEntry = Unit {0}
IsNumberInRange slots (Same k) = k < slots.query
IsNumberInRange slots Other = Unit {0}

-- ---- what is taken
-- where nothing can be taken, nothing is
abbrev pub taken_in : Option (Trail ⊤) → Trail ⊤
taken_in None = record { slots = 0; pairs = [] }
taken_in (Some trail) = trail

-- one of the first so many became this variable, or none did
abbrev pub IsTakenBefore : Slots → Pairs → ℕ → ℕ → Bool → Type 0
IsTakenBefore slots pairs end k true = (n : ℕ) × (n < end) × HasBecome slots pairs n (Same k)
IsTakenBefore slots pairs end k false =
    (n m : ℕ) → n < end → BindsEntry slots pairs n m
    → (s : Substitution Symbol Variable) → IsSolution slots pairs s
    → image same_variable s (entry m) ≡ terms.var (query k) → ⊥

module _ {T : Type 0} where
  -- the bound slots are those of the query's variables that one of the first so many became
  abbrev pub AreTaken : Slots → Pairs → ℕ → List (ℕ × T) → Type 0
  AreTaken slots pairs end taken =
      (k : ℕ) → IsTakenBefore slots pairs end k (is_some (value_at taken k))

  -- `true`: this slot is bound too. `false`: nothing changes.
  abbrev pub TakesVariable : List (ℕ × T) → ℕ → List (ℕ × T) → Bool → Type 0
  TakesVariable old k new true = (x : T) × (new ≡ old ++ (k, x) ∷ [])
  TakesVariable old k new false = new ≡ old
