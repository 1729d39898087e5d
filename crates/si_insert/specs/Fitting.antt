-- A right side fits what stands for its left side: bindings of its indicators give that term.
use Rattle.std.specs.Prelude.{◌≡◌, ℕ, false, List, ◌++◌, map}
use Rattle.std.specs.List.{AllByRecursion}
use Rattle.si_defs.specs.Substitutions.{AreDistinct}
use Rattle.si_flat.specs.declared.Cell.{Cell}
use Rattle.si_flat.specs.Cells.{Term, StandsFor}
use Rattle.si_flat.specs.Rows.{CellPair, left_sides}
use Rattle.si_legal.specs.Bindings.{Binding, indicators, applied, StandForBindings}
use Rattle.si_insert.specs.declared.open.Opened.{Opened}
use Rattle.si_insert.specs.Opened.{numbers, term_at, AreWithin}

pub record FitsTerm (bs : List Binding) (t u : Term) : Type 0 where
  pub lefts : left_sides bs ≡ indicators t
  pub gives : applied bs t ≡ u

-- each with the cells of what stands for it
abbrev pub all_pairs : List Cell → List Opened → List CellPair
all_pairs cells all = map (λ o. (o.indicator, term_at cells o.at)) all

-- these were opened besides
pub record OpensFor (cells : List Cell) (old new : List Opened) (bs : List Binding) : Type 0 where
  pub others : List Opened
  pub grows : new ≡ old ++ others
  pub stand : StandForBindings (all_pairs cells others) bs
  pub free : AllByRecursion (λ o. o.bound ≡ false) others
  pub within : AreWithin cells others

pub record OpensFitting (cells : List Cell) (old new : List Opened) (t u : Term) : Type 0 where
  pub bindings : List Binding
  pub fits : FitsTerm bindings t u
  pub opens : OpensFor cells old new bindings

-- ---- a right side, and the term at a place
-- the right side opens indicators that aren't open
pub record MayFit (old : List Opened) (right : List Cell) : Type 0 where
  pub term : Term
  pub stands : StandsFor right term
  pub distinct : AreDistinct (numbers old ++ indicators term)

abbrev pub FitsThere : List Opened → List Cell → List Cell → ℕ → List Opened → Type 0
FitsThere old right cells at new =
    (t u : Term) → StandsFor right t → StandsFor (term_at cells at) u
    → OpensFitting cells old new t u

-- no bindings make it the term at the place
abbrev pub FitsNowhere : List Cell → List Cell → ℕ → Type 0
FitsNowhere right cells at =
    (t u : Term) (bs : List Binding) → StandsFor right t → StandsFor (term_at cells at) u
    → applied bs t ≡ u → ⊥
