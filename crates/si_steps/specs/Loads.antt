-- One load: its reply, what it owes to the library, and the state after it (TPTP's include
-- directive; the replies are this project's profile).
use Rattle.std.specs.Prelude.{◌≡◌, ℕ, ◌+◌, ◌-◌, ◌≤◌, ◌⊎◌, List, [], ◌∷◌, ◌++◌, length, Option, None, Some}
use Rattle.si_defs.specs.Bytes.{Bytes}
use Rattle.si_defs.specs.Clauses.{Clause}
use Rattle.si_defs.specs.Entries.{state_entries}
use Rattle.si_state.specs.States.{State}
use Rattle.si_state.specs.Harvest.{Files, Bounds, MayAsk, Event, tried, fetches, Fault, cycle, too_deep, too_many, missing, too_big, failed, Loads, clauses_behind, AreAccepted}
use Rattle.si_steps.specs.declared.limits.Limits.{Limits}
use Rattle.si_steps.specs.Settings.{Setting}
use Rattle.si_steps.specs.Replies.{Reply, ok_line, fault_line}

abbrev pub load_bounds : Limits → Bounds
load_bounds limits = record { file = limits.file; fetches = limits.fetches; depth = limits.depth }

-- ---- what is owed
-- What a reply owes to the library's counts: how many files were fetched, how many of these there
-- were not, how many were too big, and how many fetches failed.
pub record Owed : Type 0 where
  pub fetches : ℕ
  pub misses : ℕ
  pub bigs : ℕ
  pub failures : ℕ

abbrev pub nothing : Owed
nothing = record { fetches = 0; misses = 0; bigs = 0; failures = 0 }

-- what two replies owe
abbrev pub together : Owed → Owed → Owed
together one other = record {
  fetches = one.fetches + other.fetches;
  misses = one.misses + other.misses;
  bigs = one.bigs + other.bigs;
  failures = one.failures + other.failures;
}

abbrev pub misses_in : Option Fault → ℕ
misses_in (Some (missing file)) = 1
misses_in fault = 0

abbrev pub bigs_in : Option Fault → ℕ
bigs_in (Some (too_big file)) = 1
bigs_in fault = 0

abbrev pub failures_in : Option Fault → ℕ
failures_in (Some (failed file)) = 1
failures_in fault = 0

-- what a load owes that made so many fetches and has this fault, if it has one
abbrev pub owed_for : ℕ → Option Fault → Owed
owed_for made fault = record {
  fetches = made;
  misses = misses_in fault;
  bigs = bigs_in fault;
  failures = failures_in fault;
}

-- How many of the files that were asked for were fetched: all, but the last where the fault is that
-- it may not be asked for.
abbrev pub fetches_made : List Event → Option Fault → ℕ
fetches_made events (Some (cycle file)) = fetches events - 1
fetches_made events (Some (too_deep file)) = fetches events - 1
fetches_made events (Some too_many) = fetches events - 1
fetches_made events fault = fetches events

abbrev pub owed_by : List Event → Option Fault → Owed
owed_by events fault = owed_for (fetches_made events fault) fault

-- A load of the file may make so many fetches, whatever the library has.
pub record MayFetch (bounds : Bounds) (file : Bytes) (made : ℕ) : Type 0 where
  pub most : made ≤ bounds.fetches
  pub none : (MayAsk bounds [] 0 file → ⊥) → made ≡ 0

-- ---- the reply
-- these clauses were gained
abbrev pub gained_line : List Clause → Bytes
gained_line gained = ok_line (length gained) (length (state_entries gained))

abbrev pub load_line : ℕ → List Event → Option Fault → Bytes
load_line limit events None = gained_line (tried events)
load_line limit events (Some fault) = fault_line limit fault

-- Where the library tells its files, the reading of them decides. Where it doesn't, some clauses
-- are accepted one after the other, or the load is refused and the state stays; and the first file
-- is fetched if it may be asked for.
abbrev pub PerformsLoad : Setting → Option Files → Bytes → State → Reply → Owed → State → Type 0
PerformsLoad setting (Some files) file state reply owed new =
    (events : List Event) × (fault : Option Fault)
    × Loads files (load_bounds setting.limits) setting.rules state.clauses file events fault
    × (reply ≡ load_line setting.rules.entries events fault ∷ []) × (owed ≡ owed_by events fault)
    × (new ≡ record state { clauses = clauses_behind state.clauses events fault })
PerformsLoad setting None file state reply owed new =
    MayFetch (load_bounds setting.limits) file owed.fetches
    × (MayAsk (load_bounds setting.limits) [] 0 file → 1 ≤ owed.fetches)
    × (((gained : List Clause) × AreAccepted setting.rules state.clauses gained
    × (reply ≡ gained_line gained ∷ []) × (owed ≡ owed_for owed.fetches None)
    × (new ≡ record state { clauses = state.clauses ++ gained }))
    ⊎ ((fault : Fault) × (reply ≡ fault_line setting.rules.entries fault ∷ [])
    × (owed ≡ owed_for owed.fetches (Some fault)) × (new ≡ state)))

-- Where memory runs out, a load owes the fetches that it made: none, or the first ones of a load,
-- which owes just as many where the library fails at the last of them.
abbrev pub OwesFetches : Setting → Option Files → Bytes → State → Owed → Type 0
OwesFetches setting told file state owed =
    MayFetch (load_bounds setting.limits) file owed.fetches × (owed ≡ owed_for owed.fetches None)
    × ((owed.fetches ≡ 0)
    ⊎ ((name : Bytes)
    × PerformsLoad setting told file state (fault_line setting.rules.entries (failed name) ∷ [])
    (owed_for owed.fetches (Some (failed name))) state))
