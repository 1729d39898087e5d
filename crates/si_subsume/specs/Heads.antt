-- The targets by their heads.
use Rattle.std.specs.Prelude.{◌≡◌, ℕ, suc, ◌<◌, ◌≤◌, ◌==◌, Bool, true, false, ◌&&◌, cond, List, [], ◌∷◌, length, slice_get, slice_index_or as get_or, Some}
use Rattle.std.specs.Borrow.{Bor}
use Rattle.std.specs.Map.{lookup}
use Rattle.std.specs.Option.{unwrap_or}
use Rattle.si_defs.specs.Substitutions.{Grows}
use Rattle.si_flat.specs.declared.Cell.{Cell}
use Rattle.si_flat.specs.declared.Cell.TheVariants as cell
use Rattle.si_unify.specs.declared.slots.Slots.{Slots}
use Rattle.si_unify.specs.Solving.{Pairs, HasSolved, HaveCommon}
use Rattle.si_subsume.specs.declared.heads.Head.{Head}
use Rattle.si_subsume.specs.declared.heads.Heads.{Heads}
use Rattle.si_subsume.specs.Search.{Slices}

abbrev pub head_of : Cell → Head
head_of (cell.App s arity n) = record { sym = s; arity = arity }
head_of c = record { sym = 0; arity = 0 }

abbrev pub equal_heads : Head → Head → Bool
equal_heads h g = h.sym == g.sym && h.arity == g.arity

abbrev pub first_cell : List Cell → Cell
first_cell cells = get_or cells 0 (cell.App 0 0 0)

abbrev pub slice_head : Bor (List Cell) → Head
slice_head b = head_of (first_cell b.now)

-- the number of the first of these with the head, numbered from k on, and the end where there is
-- none
abbrev pub first_in : ℕ → ℕ → Slices → Head → ℕ
first_in end k [] h = end
first_in end k (b ∷ bs) h = cond (equal_heads h (slice_head b)) k (first_in end (suc k) bs h)

-- for each the number of the next one with its head
abbrev pub nexts : ℕ → ℕ → Slices → List ℕ
nexts end k [] = []
nexts end k (b ∷ bs) = first_in end (suc k) bs (slice_head b) ∷ nexts end (suc k) bs

abbrev pub IsFirstBy : List (Head × ℕ) → ℕ → ℕ → Slices → Type 0
IsFirstBy entries end k targets = (h : Head)
    → unwrap_or (lookup (equal_heads h) entries) end ≡ first_in end k targets h

pub record IsIndexOf (heads : Heads) (targets : Slices) : Type 0 where
  pub first : IsFirstBy heads.first.entries (length targets) 0 targets
  pub next : heads.next.items ≡ nexts (length targets) 0 targets

-- the first target with the head that is to be tried from this number on
pub record IsFirstToTry (targets : Slices) (h : Head) (from number : ℕ) : Type 0 where
  pub none : (k : ℕ) (b : Bor (List Cell)) → from ≤ k → k < number → slice_get targets k ≡ Some b
      → equal_heads h (slice_head b) ≡ false
  pub has : (b : Bor (List Cell)) → slice_get targets number ≡ Some b
      → equal_heads h (slice_head b) ≡ true

-- some target has the head
abbrev pub HasTargetByHead : Slices → Head → Type 0
HasTargetByHead targets h =
    (n : ℕ) × (b : Bor (List Cell)) × (slice_get targets n ≡ Some b)
    × (equal_heads h (slice_head b) ≡ true)

-- a target is tried where its number is no smaller than this one
abbrev pub TakesFrom : Slots → Slices → Pairs → Pairs → List Cell → ℕ → ℕ → Bool → Type 0
TakesFrom slots targets old new literal from number true =
    (from ≤ number)
    × Grows old new
    × ((target : Bor (List Cell)) → slice_get targets number ≡ Some target
    → HasSolved slots old new literal target.now true)
TakesFrom slots targets old new literal from number false =
    (new ≡ old)
    × (from ≤ number → (target : Bor (List Cell)) → slice_get targets number ≡ Some target
    → HaveCommon slots old literal target.now → ⊥)
