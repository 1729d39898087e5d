-- The bindings of a node fit a term: bindings of its indicators make each right side what stands
-- for its left side.
use Rattle.std.specs.Prelude.{◌≡◌, ℕ, not, ◌==◌, List, [], ◌∷◌, ◌++◌, filter}
use Rattle.std.specs.List.{AllByRecursion, list_any}
use Rattle.si_defs.specs.Substitutions.{IsAmong, AreDistinct}
use Rattle.si_flat.specs.declared.Cell.{Cell}
use Rattle.si_flat.specs.Cells.{Term}
use Rattle.si_flat.specs.Rows.{CellPair, left_sides}
use Rattle.si_legal.specs.Bindings.{Binding, right_indicators, applied, StandForBindings}
use Rattle.si_insert.specs.declared.open.Opened.{Opened}
use Rattle.si_insert.specs.Opened.{numbers, AreWithin, with_bound, open_pairs}
use Rattle.si_insert.specs.Fitting.{OpensFor}

-- those with other left sides
abbrev pub without : List ℕ → List Binding → List Binding
without ns bs = filter (λ b. not (list_any (λ n. n == b.0) ns)) bs

-- each right side becomes what is open at its left side
abbrev pub MakesAll : List Binding → List Binding → List Binding → Type 0
MakesAll fs there bs =
    (n : ℕ) (r u : Term) → IsAmong bs (n, r) → IsAmong there (n, u) → applied fs r ≡ u

pub record FitAll (fs there bs : List Binding) : Type 0 where
  pub lefts : left_sides fs ≡ right_indicators bs
  pub each : MakesAll fs there bs

-- the left sides of the bindings are there, and their indicators new
pub record MayPass (cells : List Cell) (old : List Opened) (node : List CellPair)
    (there bs : List Binding) : Type 0 where
  pub stand : StandForBindings (open_pairs cells old) there
  pub within : AreWithin cells old
  pub node_stand : StandForBindings node bs
  pub lefts : AllByRecursion (IsAmong (left_sides there)) (left_sides bs)
  pub distinct : AreDistinct (numbers old ++ right_indicators bs)

abbrev pub CanPass : List Cell → List Opened → List CellPair → Type 0
CanPass cells old node = (there bs : List Binding) × MayPass cells old node there bs

-- ---- what becomes of it
abbrev pub OpensAll : List Cell → List Opened → List CellPair → List Opened → Type 0
OpensAll cells old node new =
    (there bs : List Binding) → MayPass cells old node there bs
    → (fs : List Binding) × FitAll fs there bs × OpensFor cells old new fs

abbrev pub IsBoundBy : List ℕ → List Opened → List Opened → Type 0
IsBoundBy [] old new = new ≡ old
IsBoundBy (n ∷ ns) old new = IsBoundBy ns (with_bound n old) new

-- the node's left sides aren't open any longer, and its indicators are
pub record Passes (cells : List Cell) (old new : List Opened) (there bs fs : List Binding)
    : Type 0 where
  pub fit : FitAll fs there bs
  pub stand : StandForBindings (open_pairs cells new) (without (left_sides bs) there ++ fs)
  pub within : AreWithin cells new
  pub numbers_are : numbers new ≡ numbers old ++ left_sides fs

abbrev pub PassesAll : List Cell → List Opened → List CellPair → List Opened → Type 0
PassesAll cells old node new =
    (there bs : List Binding) → MayPass cells old node there bs
    → (fs : List Binding) × Passes cells old new there bs fs

-- no bindings make each right side what is open at its left side
abbrev pub PassesNever : List Cell → List Opened → List CellPair → Type 0
PassesNever cells old node =
    (there bs fs : List Binding) → MayPass cells old node there bs → MakesAll fs there bs → ⊥
