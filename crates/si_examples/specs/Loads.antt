-- Loads, their replies and the state after them.
use Rattle.std.specs.Prelude.{◌≡◌, ◌≤◌, [], ◌∷◌, None, Some, codes}
use Rattle.si_state.specs.States.{State, empty_state, limited_to}
use Rattle.si_state.specs.Harvest.{cycle}
use Rattle.si_steps.specs.Settings.{Setting}
use Rattle.si_steps.specs.Loads.{Owed, owed_for, load_bounds, PerformsLoad}
use Rattle.si_steps.specs.Replies.{fault_line}
use Rattle.si_steps.specs.Steps.{RightStep}
use Rattle.si_examples.specs.Entries.{keeping}
use Rattle.si_examples.specs.Harvests.{bounds, c, includes, plain, selecting}

-- of the two clauses of an included file the one that is listed is kept, and two files are fetched
abbrev pub LoadedLine : Type 0
LoadedLine = (setting : Setting) → 8 ≤ setting.limits.line
    → load_bounds setting.limits ≡ bounds 30 2 2 → setting.rules ≡ limited_to 2
    → RightStep setting (Some selecting) empty_state
    (codes "load 'm'") (codes "ok 1 1" ∷ []) (owed_for 2 None)
    (keeping (c ∷ []))

-- a file that includes itself is fetched once
abbrev pub OwnIncludeOwed : Type 0
OwnIncludeOwed = (setting : Setting) → load_bounds setting.limits ≡ bounds 15 1 1
    → setting.rules ≡ limited_to 2
    → PerformsLoad setting (Some (includes (codes "a"))) (codes "a") empty_state
    (fault_line setting.rules.entries (cycle (codes "a")) ∷ [])
    (record { fetches = 1; misses = 0; bigs = 0; failures = 0 }) empty_state

-- no file has the name, so the reply that nothing was gained is wrong, whatever the state after it
abbrev pub NoGainWithoutFile : Type 0
NoGainWithoutFile = (setting : Setting) (kept new : State) (owed : Owed)
    → PerformsLoad setting (Some plain) (codes "b") kept (codes "ok 0 0" ∷ []) owed new → ⊥
