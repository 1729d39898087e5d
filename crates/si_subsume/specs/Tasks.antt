-- Tasks: what is searched through, and what each step of the search comes to.
use Rattle.std.specs.Prelude.{ℕ, Bool, List, Option, Vec}
use Rattle.std.specs.List.{AllByRecursion}
use Rattle.std.specs.declared.alloc.Global.{Global}
use Rattle.si_flat.specs.declared.Cell.{Cell}
use Rattle.si_unify.specs.Solving.{Pairs}
use Rattle.si_subsume.specs.declared.search.Choice.{Choice}
use Rattle.si_subsume.specs.declared.search.Task.{Task}
use Rattle.si_subsume.specs.Heads.{slice_head, IsIndexOf, HasTargetByHead, TakesFrom}
use Rattle.si_subsume.specs.Search.{AreFlatLiterals, FindsTarget, IsUnderwayFrom, IsDead, GoesOnFrom, AnswersSearch, AnswersSlices}

-- the literals and the targets are flat, and the index is that of the targets by their heads
pub record IsSearchable (task : Task) : Type 0 where
  pub literals : AreFlatLiterals task.slots task.literals.now
  pub targets : AreFlatLiterals task.slots task.targets.now
  pub index : IsIndexOf task.heads.now task.targets.now

-- a target is tried for a literal
abbrev pub TriesTarget : Task → Pairs → Pairs → List Cell → ℕ → ℕ → Bool → Type 0
TriesTarget task = TakesFrom task.slots task.targets.now

-- the first target from a number on to which a literal can be taken
abbrev pub FindsNextTarget : Task → Pairs → Pairs → List Cell → ℕ → Option ℕ → Type 0
FindsNextTarget task = FindsTarget task.slots task.targets.now

-- where the search stands: these choices were made, and the next literal goes on from this target
abbrev pub SearchStandsAt : Task → List Choice → Pairs → ℕ → Type 0
SearchStandsAt task = IsUnderwayFrom task.slots task.targets.now task.literals.now

abbrev pub CannotGoOn : Task → List Choice → Pairs → Type 0
CannotGoOn task = IsDead task.slots task.targets.now task.literals.now

-- The search took a turn from these choices and this target, and goes on from the next one; or
-- there is no map.
abbrev pub Advances : Task → List Choice → ℕ → List Choice → Pairs → Option ℕ → Type 0
Advances task = GoesOnFrom task.slots task.literals.now task.targets.now

-- for each literal some target begins with the same symbol, of the same arity
abbrev pub EachHasTarget : Task → Type 0
EachHasTarget task =
    AllByRecursion (λ literal. HasTargetByHead task.targets.now (slice_head literal))
    task.literals.now

-- the choices of the least map
abbrev pub FindsChoices : Task → Option (Vec Choice Global) → Type 0
FindsChoices task = AnswersSearch task.slots task.literals.now task.targets.now

-- the numbers of the least map
abbrev pub FindsMap : Task → Option (List ℕ) → Type 0
FindsMap task = AnswersSlices task.slots task.literals.now task.targets.now
