-- Fresh indicators: nothing that was told so far is about them.
use Rattle.std.specs.Prelude.{◌≡◌, ℕ, List, [], ◌∷◌}
use Rattle.std.specs.List.{AllByRecursion}
use Rattle.si_defs.specs.Substitutions.{Substitution, IsAmong}
use Rattle.si_flat.specs.declared.Cell.{Cell}
use Rattle.si_flat.specs.declared.Cell.TheVariants as cell
use Rattle.si_flat.specs.Cells.{Symbol, Variable, ind, Term}
use Rattle.si_flat.specs.Rows.{CellPair, row_of}
use Rattle.si_unify.specs.declared.slots.Slots.{Slots}
use Rattle.si_unify.specs.Solving.{Pairs, variable_of, IsSolution}

-- no indicator stands twice among the cells
abbrev pub StandOnce : List Cell → Type 0
StandOnce [] = Unit {0}
StandOnce (c ∷ cells) = ((n : ℕ) → c ≡ cell.Ind n → IsAmong cells c → ⊥) × StandOnce cells

-- if the cell is an indicator's: a solution of the list stays one, whatever that is made
abbrev pub IsUntold : Slots → Pairs → Cell → Type 0
IsUntold slots pairs c =
    (n : ℕ) (s : Substitution Symbol Variable) (t : Term) → c ≡ cell.Ind n
    → IsSolution slots pairs s → IsSolution slots pairs ((ind n, t) ∷ s)

-- No indicator stands twice in these bindings, and of those on the right sides the list tells
-- nothing.
pub record AreFresh (slots : Slots) (pairs : Pairs) (rows : List CellPair) : Type 0 where
  pub once : StandOnce (row_of rows)
  pub untold : AllByRecursion (λ r. AllByRecursion (IsUntold slots pairs) r.1) rows

-- ---- how such a list looks
-- the indicator is neither bound nor in a value
abbrev pub IsUnmentioned : Slots → Pairs → ℕ → Type 0
IsUnmentioned slots pairs n =
    AllByRecursion
    (λ pair. (variable_of slots pair.0 ≡ ind n → ⊥) × (IsAmong pair.1.now (cell.Ind n) → ⊥)) pairs

-- if the cell is an indicator's: that is neither mentioned nor in the term
abbrev pub IsNew : Slots → Pairs → List Cell → Cell → Type 0
IsNew slots pairs term c =
    (n : ℕ) → c ≡ cell.Ind n → IsUnmentioned slots pairs n × (IsAmong term (cell.Ind n) → ⊥)
