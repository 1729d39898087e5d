-- The files that are open, and where their reading stands.
use Rattle.std.specs.Prelude.{◌≡◌, ℕ, ◌+◌, ◌≤◌, ◌⊎◌, Bool, true, false, List, [], ◌∷◌, ◌++◌, length, map, reverse, Option, None, Some, IfSome, bytes_eq, Result, OnOk, IfErr}
use Rattle.std.specs.List.{list_any, list_all}
use Rattle.si_defs.specs.Bytes.{Bytes}
use Rattle.si_defs.specs.Clauses.{Name, Clause}
use Rattle.si_state.specs.States.{Rules}
use Rattle.si_state.specs.Harvest.{Files, Bounds, Event, Fault, failed, MayAsk, IsBarred, IsWithheld, Loads}
use Rattle.si_state.specs.Acceptance.{Accepts}
use Rattle.si_steps.specs.Loads.{fetches_made}
use Rattle.si_harvest.specs.declared.files.OpenFile.{OpenFile}
use Rattle.si_harvest.specs.declared.names.NameSet.{NameSet}
use Rattle.si_harvest.specs.declared.reading.Reading.{Reading}
use Rattle.si_harvest.specs.declared.faults.HarvestFault.{HarvestFault}
use Rattle.si_harvest.specs.Chosen.{holds}
use Rattle.si_harvest.specs.Faults.{NamesWhy}

abbrev pub file_names : List OpenFile → List Bytes
file_names files = map (λ f. f.name) files

-- the innermost first
abbrev pub opened_names : List OpenFile → List Bytes
opened_names files = file_names (reverse files)

-- one of the files has the name
abbrev pub has_open : List OpenFile → Bytes → Bool
has_open files name = list_any (λ f. bytes_eq f.name name) files

abbrev pub lists : Option NameSet → Name → Bool
lists None name = true
lists (Some set) name = holds set name

-- the selections of all these files list the name
abbrev pub is_selected : List OpenFile → Name → Bool
is_selected files name = list_all (λ f. lists f.chosen name) files

-- the library gave the file, which is open at its front
pub record HasOpened (told : Option Files) (bounds : Bounds) (name : Bytes)
    (chosen : Option NameSet) (file : OpenFile) : Type 0 where
  pub named : file.name ≡ name
  pub given : IfSome told (λ files. files name ≡ Some file.bytes.items)
  pub small : length file.bytes.items ≤ bounds.file
  pub front : file.at ≡ 0
  pub selects : file.chosen ≡ chosen

-- a file is open inside these, after one fetch more, with names of which this holds
pub record OpensInside (told : Option Files) (bounds : Bounds) (name : Bytes)
    (AreListed : Option NameSet → Type 0) (outer : List OpenFile) (made : ℕ) (after : Reading)
    : Type 0 where
  pub may : MayAsk bounds (opened_names outer) made name
  pub file : OpenFile
  pub chosen : Option NameSet
  pub listed : AreListed chosen
  pub given : HasOpened told bounds name chosen file
  pub inside : after.files.items ≡ outer ++ file ∷ []
  pub counted : after.fetches ≡ made + 1

-- Why it can't be opened inside these, after so many fetches: it may not be asked for, or one more
-- was made.
abbrev pub IsUnopened : Option Files → Bounds → Bytes → List OpenFile → (before made : ℕ) → Fault
    → Type 0
IsUnopened told bounds name outer before made fault =
    (IsBarred bounds (opened_names outer) before name fault × (made ≡ before))
    ⊎ (MayAsk bounds (opened_names outer) before name
    × IfSome told (λ files. IsWithheld files bounds name fault) × (made ≡ before + 1))

-- no fetch more was made, or one, of a file that may be asked for
abbrev pub FetchesOnce : Bounds → Bytes → List OpenFile → (before made : ℕ) → Type 0
FetchesOnce bounds name outer before made =
    (made ≡ before) ⊎ (MayAsk bounds (opened_names outer) before name × (made ≡ before + 1))

-- A file is opened inside these, after so many fetches, or the fault names why it can't be, or
-- memory ran out. At most one fetch more is made.
pub record Enters {T : Type 0} (told : Option Files) (bounds : Bounds) (name : Bytes)
    (AreListed : Option NameSet → Type 0) (outer : List OpenFile) (before : ℕ) (after : Reading)
    (result : Result T HarvestFault) : Type 0 where
  pub entered : OnOk result (OpensInside told bounds name AreListed outer before after)
  pub unopened : IfErr result (λ e. (rules : Rules)
      → NamesWhy rules e (IsUnopened told bounds name outer before after.fetches))
  pub once : FetchesOnce bounds name outer before after.fetches

-- The clause was passed over where the selections don't all list it, and else it was accepted.
abbrev pub TriesClause : Rules → List OpenFile → Clause → List Clause → List Clause → Type 0
TriesClause rules files clause before after =
    ((is_selected files clause.name ≡ false) × (after ≡ before))
    ⊎ ((is_selected files clause.name ≡ true) × Accepts rules before clause after)

-- A load of the file has this fault, after so many fetches: at least one, if the file may be asked
-- for.
abbrev pub HasFault : Option Files → Bounds → Rules → List Clause → Bytes → (made : ℕ) → Fault
    → Type 0
HasFault told bounds rules start file made fault =
    (MayAsk bounds [] 0 file → 1 ≤ made)
    × IfSome told (λ files. (events : List Event)
    × Loads files bounds rules start file events (Some fault)
    × (made ≡ fetches_made events (Some fault)))

-- A load of the file makes so many fetches: it ends with the last of them where the library fails
-- at that one.
abbrev pub HasFetched : Option Files → Bounds → Rules → List Clause → Bytes → (made : ℕ) → Type 0
HasFetched told bounds rules start file made =
    (name : Bytes) × HasFault told bounds rules start file made (failed name)
