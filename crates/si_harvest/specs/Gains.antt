-- What a load has gained so far.
use Rattle.std.specs.Prelude.{◌≡◌, ℕ, ◌≤◌, List, ◌++◌, length, Option, None, IfSome}
use Rattle.si_defs.specs.Bytes.{Bytes}
use Rattle.si_defs.specs.Clauses.{Clause}
use Rattle.si_defs.specs.Entries.{state_entries}
use Rattle.si_state.specs.States.{Rules}
use Rattle.si_state.specs.Harvest.{Files, Bounds, Event, tried, fetches, Loads, AreAccepted}
use Rattle.si_harvest.specs.declared.faults.Loaded.{Loaded}

-- nothing is counted
abbrev pub nothing_loaded : Loaded
nothing_loaded = record { clauses = 0; entries = 0 }

-- no more is counted than is kept
pub record CountsNoMore (loaded : Loaded) (kept : List Clause) : Type 0 where
  pub clauses : loaded.clauses ≤ loaded.entries
  pub entries : loaded.entries ≤ length (state_entries kept)

-- what is kept was kept at the start, and then clauses were accepted one after the other and are
-- counted
pub record Gained (rules : Rules) (start : List Clause) (loaded : Loaded)
    (kept : List Clause) : Type 0 where
  pub gained : List Clause
  pub whole : kept ≡ start ++ gained
  pub accepted : AreAccepted rules start gained
  pub clauses : loaded.clauses ≡ length gained
  pub entries : loaded.entries ≡ length (state_entries gained)

-- What is kept and counted goes on by some clauses, or none: the rules stay, no more is counted
-- than is kept, and whatever start a load's gains were counted from, they count on from there.
pub record GainsOn (rules rules_now : Rules) (kept kept_now : List Clause)
    (loaded loaded_now : Loaded) : Type 0 where
  pub same : rules_now ≡ rules
  pub counted : CountsNoMore loaded_now kept_now
  pub gained : (start : List Clause)
      → Gained rules start loaded kept → Gained rules start loaded_now kept_now

-- after a load of the file and so many fetches these clauses are kept, and there is no fault
abbrev pub GainsByLoad : Option Files → Bounds → Rules → List Clause → Bytes → (made : ℕ)
    → List Clause → Type 0
GainsByLoad told bounds rules start file made kept =
    (1 ≤ made)
    × IfSome told (λ files. (events : List Event)
    × Loads files bounds rules start file events None × (made ≡ fetches events)
    × (kept ≡ start ++ tried events))
