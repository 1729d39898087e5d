-- A load between two of its steps, and at its end.
use Rattle.std.specs.Prelude.{◌≡◌, ◌⊎◌, ℕ, List, Option, Result, OnOk, IfErr}
use Rattle.si_defs.specs.Bytes.{Bytes}
use Rattle.si_defs.specs.Clauses.{Clause}
use Rattle.si_state.specs.States.{Rules}
use Rattle.si_state.specs.Harvest.{Files, Bounds}
use Rattle.si_steps.specs.Loads.{MayFetch}
use Rattle.si_io.specs.Counts.{raised_by}
use Rattle.si_harvest.specs.declared.reading.Reading.{Reading}
use Rattle.si_harvest.specs.declared.faults.Loaded.{Loaded}
use Rattle.si_harvest.specs.declared.faults.HarvestFault.{HarvestFault}
use Rattle.si_harvest.specs.Faults.{NamesWhy}
use Rattle.si_harvest.specs.Opened.{HasFault, HasFetched}
use Rattle.si_harvest.specs.Gains.{CountsNoMore, Gained, GainsByLoad}
use Rattle.si_harvest.specs.Underway.{IsLoadUnderway, AreFilesWithin}

-- it is under way, its places are within their files, and what it gained is counted
pub record IsLoading (told : Option Files) (bounds : Bounds) (rules : Rules) (start : List Clause)
    (file : Bytes) (reading : Reading) (kept : List Clause) (loaded : Loaded) : Type 0 where
  pub underway : IsLoadUnderway told bounds rules start file reading kept
  pub within : AreFilesWithin reading.files.items
  pub counted : CountsNoMore loaded kept
  pub gained : Gained rules start loaded kept

-- A load of the file made so many fetches, and the library counted a call for each: none, or the
-- first ones of a load. Where it tells its files, they are those of what the load reads, to the end
-- or to the fault that is named.
pub record ReadsFiles {T : Type 0} (told : Option Files) (bounds : Bounds) (rules : Rules)
    (file : Bytes) (result : Result T HarvestFault) (start kept : List Clause)
    (calls calls_now : ℕ) : Type 0 where
  pub made : ℕ
  pub counted : calls_now ≡ raised_by made calls
  pub may : MayFetch bounds file made
  pub first : (made ≡ 0) ⊎ HasFetched told bounds rules start file made
  pub right : OnOk result (GainsByLoad told bounds rules start file made kept)
  pub fault : IfErr result (λ e. NamesWhy rules e (HasFault told bounds rules start file made))
