-- One step of a load.
use Rattle.std.specs.Prelude.{◌≡◌, ℕ, ◌≤◌, ◌<◌, Bool, true, false, List, [], Option, Result, Ok, Err}
use Rattle.si_defs.specs.Bytes.{Bytes}
use Rattle.si_defs.specs.Clauses.{Clause}
use Rattle.si_state.specs.States.{Rules}
use Rattle.si_state.specs.Harvest.{Files, Bounds}
use Rattle.si_io.specs.Counts.{raised_by}
use Rattle.si_io.specs.Shown.{LibraryShown}
use Rattle.si_harvest.specs.declared.reading.Reading.{Reading}
use Rattle.si_harvest.specs.declared.faults.HarvestFault.{HarvestFault}
use Rattle.si_harvest.specs.Faults.{NamesWhy}
use Rattle.si_harvest.specs.Opened.{HasFault, HasFetched}
use Rattle.si_harvest.specs.Underway.{IsLoadUnderway, AreFilesWithin, steps_left}

-- The library was called once for each fetch in between, and no more were made than there may be.
pub record FetchesOn (most : ℕ) (old new : Reading) (before now : LibraryShown) : Type 0 where
  pub later : old.fetches ≤ new.fetches
  pub counted : (first : ℕ) → before.counts.calls ≡ raised_by old.fetches first
      → now.counts.calls ≡ raised_by new.fetches first
  pub few : old.fetches ≤ most → new.fetches ≤ most

-- each load that is under way stays so, and less is left to read
pub record StepsOn (told : Option Files) (bounds : Bounds) (rules : Rules) (old new : Reading)
    (before after : List Clause) : Type 0 where
  pub underway : (start : List Clause) (file : Bytes)
      → IsLoadUnderway told bounds rules start file old before
      → IsLoadUnderway told bounds rules start file new after
  pub within : AreFilesWithin new.files.items
  pub falls : steps_left bounds new < steps_left bounds old

-- what a step answers: whether a file was open, or the fault of each load that is under way, with
-- its fetches until then
abbrev pub StepsReading : Option Files → Bounds → Rules → Reading → Reading
    → (before after : List Clause) → Result Bool HarvestFault → Type 0
StepsReading told bounds rules old new before after (Ok true) =
    StepsOn told bounds rules old new before after
StepsReading told bounds rules old new before after (Ok false) =
    (old.files.items ≡ []) × (after ≡ before) × (new.fetches ≡ old.fetches)
StepsReading told bounds rules old new before after (Err e) =
    (start : List Clause) (file : Bytes) → IsLoadUnderway told bounds rules start file old before
    → NamesWhy rules e (HasFault told bounds rules start file new.fetches)
    × HasFetched told bounds rules start file new.fetches
