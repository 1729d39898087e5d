-- The search for the least map: one literal after the other, with the targets rising.
use Rattle.std.specs.Prelude.{◌≡◌, ◌⊎◌, ℕ, suc, ◌<◌, ◌≤◌, ◌↔◌, List, [], ◌∷◌, ◌++◌, length, map, slice_get, slice_index_or as get_or, Option, None, Some, Vec}
use Rattle.std.specs.List.{AllByRecursion}
use Rattle.std.specs.Borrow.{Bor}
use Rattle.std.specs.declared.alloc.Global.{Global}
use Rattle.si_defs.specs.Substitutions.{Substitution, image, Grows}
use Rattle.si_state.specs.Subsumption.{AreImages, IsLeast, AnswersLeast}
use Rattle.si_flat.specs.declared.Cell.{Cell}
use Rattle.si_flat.specs.declared.Cell.TheVariants as cell
use Rattle.si_flat.specs.Cells.{Symbol, Variable, same_variable, IsWhole}
use Rattle.si_unify.specs.declared.slots.Slots.{Slots}
use Rattle.si_unify.specs.Solving.{Pairs, AreInRange, Equalizes, IsSolution, IsCommon, HaveCommon}
use Rattle.si_subsume.specs.declared.search.Choice.{Choice}

abbrev pub Slices : Type 0
Slices = List (Bor (List Cell))

-- ---- what can be solved
-- the cell of a symbol
abbrev pub IsSymbolCell : Cell → Type 0
IsSymbolCell (cell.App s arity n) = Unit {0}
IsSymbolCell c = ⊥

pub record IsFlatLiteral (slots : Slots) (cells : List Cell) : Type 0 where
  pub whole : IsWhole cells
  pub headed : IsSymbolCell (get_or cells 0 (cell.App 0 0 0))
  pub in_range : AreInRange slots cells

abbrev pub AreFlatLiterals : Slots → Slices → Type 0
AreFlatLiterals slots = AllByRecursion (λ b. IsFlatLiteral slots b.now)

-- both are cells of symbols, and of different ones
abbrev pub HaveOtherHeads : Cell → Cell → Type 0
HaveOtherHeads (cell.App s a m) (cell.App r b n) = (s ≡ r) × (a ≡ b) → ⊥
HaveOtherHeads _ _ = ⊥

-- ---- maps over bindings
-- a solution of the bindings takes each literal to the target that the map tells
abbrev pub CanEnd : Slots → Slices → Pairs → Slices → List ℕ → Type 0
CanEnd slots targets pairs literals ns =
    (s : Substitution Symbol Variable)
    × IsSolution slots pairs s
    × AreImages (λ l k. Equalizes (image same_variable s) l.now k.now) targets literals ns

-- the number from 1 of the target that was chosen
abbrev pub number_from_one : Choice → ℕ
number_from_one choice = suc choice.number

pub record IsLeastSearch (slots : Slots) (literals targets : Slices)
    (choices : List Choice) : Type 0 where
  pub least : IsLeast (CanEnd slots targets [] literals) (map number_from_one choices)
  pub inside : AllByRecursion (λ choice. choice.number < length targets) choices

abbrev pub AnswersSearch : Slots → Slices → Slices → Option (Vec Choice Global) → Type 0
AnswersSearch slots literals targets None = (ns : List ℕ) → CanEnd slots targets [] literals ns → ⊥
AnswersSearch slots literals targets (Some choices) =
    IsLeastSearch slots literals targets choices.items

-- the same, by the numbers
abbrev pub AnswersSlices : Slots → Slices → Slices → Option (List ℕ) → Type 0
AnswersSlices slots literals targets answer = AnswersLeast (CanEnd slots targets [] literals) answer

-- ---- choices
-- A target was chosen for the literal: the new bindings are solved by just those solutions of the
-- old ones that take the literal there. With a smaller number no map can be completed.
pub record IsChosen (slots : Slots) (targets : Slices) (old new : Pairs) (literal : Bor (List Cell))
    (rest : Slices) (choice : Choice) : Type 0 where
  pub mark : choice.mark ≡ length old
  pub grows : Grows old new
  pub target : Bor (List Cell)
  pub target_is : slice_get targets choice.number ≡ Some target
  pub solved : (s : Substitution Symbol Variable) × IsSolution slots new s
  pub solves : (s : Substitution Symbol Variable) → IsSolution slots new s
      ↔ IsCommon slots old literal.now target.now s
  pub none_before : (n : ℕ) (ns : List ℕ) → n < choice.number
      → CanEnd slots targets old (literal ∷ rest) (suc n ∷ ns) → ⊥

module _ (slots : Slots) (targets : Slices) where
  -- These choices were made one after the other, from the old bindings to the new ones. Of the
  -- literals so many are left.
  abbrev pub WereChosen : Pairs → Slices → List Choice → Slices → Pairs → Type 0
  WereChosen old literals [] left new = (left ≡ literals) × (new ≡ old)
  WereChosen old [] (choice ∷ choices) left new = ⊥
  WereChosen old (literal ∷ rest) (choice ∷ choices) left new =
      (next : Pairs) × IsChosen slots targets old next literal rest choice
      × WereChosen next rest choices left new

  -- no target below is of use for the next literal
  abbrev pub AreTried : Pairs → Slices → ℕ → Type 0
  AreTried pairs left from = (n : ℕ) (ns : List ℕ) → n < from
      → CanEnd slots targets pairs left (suc n ∷ ns) → ⊥

  abbrev pub IsUnderwayFrom : Slices → List Choice → Pairs → ℕ → Type 0
  IsUnderwayFrom literals choices pairs from =
      (left : Slices) × WereChosen [] literals choices left pairs × AreTried pairs left from

  -- the choices can't be completed
  abbrev pub IsDead : Slices → List Choice → Pairs → Type 0
  IsDead literals choices pairs =
      (left : Slices) × WereChosen [] literals choices left pairs
      × ((ns : List ℕ) → CanEnd slots targets pairs left ns → ⊥)

-- ---- one turn
-- a choice that came to nothing: where it bound nothing, none of the other targets is of use
abbrev pub NextNumber : Choice → ℕ → ℕ → ℕ → Type 0
NextNumber choice mark end next =
    (choice.number < next) × (next ≤ end) × ((next ≡ suc choice.number) ⊎ (mark ≡ choice.mark))

-- one of so many targets was chosen for the next literal, which is none of those below; or the last
-- choice was taken back, and its literal goes on above it
abbrev pub TakesTurn : (targets : ℕ) → (old : List Choice) → (from : ℕ) → (new : List Choice)
    → (next : ℕ) → Type 0
TakesTurn targets old from new next =
    ((choice : Choice) × (new ≡ old ++ choice ∷ []) × (from ≤ choice.number)
    × (choice.number < targets) × (next ≡ 0))
    ⊎ ((choice : Choice) × (old ≡ new ++ choice ∷ []) × (choice.number < next))

-- what a turn comes to: the search goes on with another target, or there is no map
abbrev pub GoesOnFrom : Slots → Slices → Slices → (old : List Choice) → (from : ℕ)
    → (new : List Choice) → Pairs → Option ℕ → Type 0
GoesOnFrom slots literals targets old from new pairs None = (ns : List ℕ)
    → CanEnd slots targets [] literals ns → ⊥
GoesOnFrom slots literals targets old from new pairs (Some next) =
    IsUnderwayFrom slots targets literals new pairs next
    × TakesTurn (length targets) old from new next

-- ---- one literal
-- the first target from a number on to which the literal can be taken, and none below
pub record IsFirstTarget (slots : Slots) (targets : Slices) (old new : Pairs) (literal : List Cell)
    (from n : ℕ) : Type 0 where
  pub at_least : from ≤ n
  pub target : Bor (List Cell)
  pub target_is : slice_get targets n ≡ Some target
  pub grows : Grows old new
  pub solved : (s : Substitution Symbol Variable) × IsSolution slots new s
  pub solves : (s : Substitution Symbol Variable) → IsSolution slots new s
      ↔ IsCommon slots old literal target.now s
  pub none_before : (k : ℕ) (other : Bor (List Cell)) → from ≤ k → k < n
      → slice_get targets k ≡ Some other → HaveCommon slots old literal other.now → ⊥

abbrev pub FindsTarget : Slots → Slices → Pairs → Pairs → List Cell → ℕ → Option ℕ → Type 0
FindsTarget slots targets old new literal from None =
    (new ≡ old)
    × ((k : ℕ) (other : Bor (List Cell)) → from ≤ k → slice_get targets k ≡ Some other
    → HaveCommon slots old literal other.now → ⊥)
FindsTarget slots targets old new literal from (Some n) =
    IsFirstTarget slots targets old new literal from n
