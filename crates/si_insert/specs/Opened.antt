-- The indicators that a path opens, each with the place in a term of what stands for it.
use Rattle.std.specs.Prelude.{◌≡◌, ℕ, suc, ◌<◌, true, cond, ◌==◌, List, [], ◌∷◌, length, map, take, drop, Some, slice_get}
use Rattle.std.specs.List.{AllByRecursion}
use Rattle.si_defs.specs.Substitutions.{IsAmong}
use Rattle.si_flat.specs.declared.Cell.{Cell}
use Rattle.si_flat.specs.Rows.{CellPair, first_span}
use Rattle.si_insert.specs.declared.open.Opened.{Opened}

abbrev pub numbers : List Opened → List ℕ
numbers all = map (λ o. o.indicator) all

-- the table leads from each number to its place in the list, counted on from this one
abbrev pub AreListedFrom : List ℕ → ℕ → List Opened → Type 0
AreListedFrom places k [] = Unit {0}
AreListedFrom places k (o ∷ os) =
    (slice_get places o.indicator ≡ Some k) × AreListedFrom places (suc k) os

-- what the indicator stands for begins there
abbrev pub BeginsAtPlace : List Opened → ℕ → ℕ → Type 0
BeginsAtPlace all n at = (o : Opened) × IsAmong all o × (o.indicator ≡ n) × (o.at ≡ at)

abbrev pub with_bound : ℕ → List Opened → List Opened
with_bound n all = map (λ o. cond (o.indicator == n) (record o { bound = true }) o) all

-- ---- what isn't bound
-- the cells of the term that begins at a place
abbrev pub term_at : List Cell → ℕ → List Cell
term_at cells at = take (first_span (drop at cells)) (drop at cells)

abbrev pub AreWithin : List Cell → List Opened → Type 0
AreWithin cells all = AllByRecursion (λ o. o.at < length cells) all

abbrev pub open_pairs : List Cell → List Opened → List CellPair
open_pairs cells [] = []
open_pairs cells (o ∷ os) =
    cond o.bound (open_pairs cells os)
    ((o.indicator, term_at cells o.at) ∷ open_pairs cells os)
