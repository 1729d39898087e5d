-- A load that is under way: where the reading of each open file stands, and what is still to come.
use Rattle.std.specs.Prelude.{◌≡◌, ℕ, ◌+◌, ◌-◌, ◌*◌, ◌≤◌, ◌⊎◌, List, [], ◌∷◌, ◌++◌, length, drop, reverse, Option, None, Some}
use Rattle.std.specs.List.{AllByRecursion}
use Rattle.si_defs.specs.Bytes.{Bytes}
use Rattle.si_defs.specs.Clauses.{Name, Clause}
use Rattle.si_defs.specs.declared.TheConstants.{MOST_OCCURRENCES}
use Rattle.si_defs.specs.Grammar.{Selection, all, only}
use Rattle.si_state.specs.States.{Rules}
use Rattle.si_state.specs.Harvest.{Files, Bounds, Event, Fault, fetches, tried, ReadingPoint, Continues, Loads}
use Rattle.si_harvest.specs.declared.files.OpenFile.{OpenFile}
use Rattle.si_harvest.specs.declared.names.NameSet.{NameSet}
use Rattle.si_harvest.specs.declared.reading.Reading.{Reading}
use Rattle.si_harvest.specs.Chosen.{IsSetOf}
use Rattle.si_harvest.specs.Opened.{HasFetched}

-- ---- points
-- the files that are open at the first of these, and the selections round it
abbrev pub opened_at : List ReadingPoint → List Bytes
opened_at [] = []
opened_at (s ∷ ss) = s.opened

abbrev pub around_at : List ReadingPoint → List (List Name)
around_at [] = []
around_at (s ∷ ss) = s.around

-- the set's names are listed too, if there is one
abbrev pub Narrows : Option NameSet → List (List Name) → List (List Name) → Type 0
Narrows None outer around = around ≡ outer
Narrows (Some set) outer around = (names : List Name) × IsSetOf names set × (around ≡ names ∷ outer)

-- the set is that of a selection's names, if it lists any
abbrev pub Lists : Selection → Option NameSet → Type 0
Lists all chosen = chosen ≡ None
Lists (only names) None = ⊥
Lists (only names) (Some set) = IsSetOf names set

-- the reading of the file, inside those at these points, stands at this one
pub record IsAtPoint (file : OpenFile) (outer : List ReadingPoint) (point : ReadingPoint)
    : Type 0 where
  pub named : point.file ≡ file.name
  pub whole : point.bytes ≡ file.bytes.items
  pub among : point.opened ≡ file.name ∷ opened_at outer
  pub selects : Narrows file.chosen (around_at outer) point.around
  pub left : point.rest ≡ drop file.at file.bytes.items

-- the readings of these files, the innermost first, stand at these points
abbrev pub Stand : List OpenFile → List ReadingPoint → Type 0
Stand [] [] = Unit {0}
Stand [] (s ∷ ss) = ⊥
Stand (f ∷ fs) [] = ⊥
Stand (f ∷ fs) (s ∷ ss) = IsAtPoint f ss s × Stand fs ss

-- ---- what is to come
module _ (files : Files) (bounds : Bounds) (rules : Rules) where
  -- From these points on, the innermost first, the readings give these events, and a fault if they
  -- end early.
  abbrev pub Finishes : List ReadingPoint → ℕ → List Clause → List Event → Option Fault → Type 0
  Finishes [] made kept events fault = (events ≡ []) × (fault ≡ None)
  Finishes (s ∷ ss) made kept events fault =
      ((own : List Event) × (others : List Event)
      × Continues files bounds rules s made kept own None
      × Finishes ss (made + fetches own) (kept ++ tried own) others fault
      × (events ≡ own ++ others))
      ⊎ ((early : Fault) × Continues files bounds rules s made kept events (Some early)
      × (fault ≡ Some early))

-- At the start of the load of a file the first of these clauses were kept, and after some events
-- the others are. The fetches so far are those of these events, and the load ends with the last of
-- them where the library fails at it. What the readings give from here on, the load gives after
-- the events.
pub record IsLoadUnderway (told : Option Files) (bounds : Bounds) (rules : Rules)
    (start : List Clause) (file : Bytes) (reading : Reading) (kept : List Clause) : Type 0 where
  pub points : List ReadingPoint
  pub stand : Stand (reverse reading.files.items) points
  pub events : List Event
  pub gained : kept ≡ start ++ tried events
  pub asked : reading.fetches ≡ fetches events
  pub begun : 1 ≤ reading.fetches
  pub fetched : HasFetched told bounds rules start file reading.fetches
  pub goes_on : (files : Files) → told ≡ Some files → (others : List Event) (fault : Option Fault)
      → Finishes files bounds rules points reading.fetches kept others fault
      → Loads files bounds rules start file (events ++ others) fault

-- ---- safety
-- no place is past the end of its file, and no file is larger than may be read
pub record IsFileWithin (file : OpenFile) : Type 0 where
  pub place : file.at ≤ length file.bytes.items
  pub size : length file.bytes.items ≤ MOST_OCCURRENCES

abbrev pub AreFilesWithin : List OpenFile → Type 0
AreFilesWithin files = AllByRecursion IsFileWithin files

-- how much is left to read of the files that are open
abbrev pub left_to_read : List OpenFile → ℕ
left_to_read [] = 0
left_to_read (f ∷ fs) = (length f.bytes.items - f.at) + 1 + left_to_read fs

-- more than so many steps can't follow
abbrev pub steps_left : Bounds → Reading → ℕ
steps_left bounds reading = (bounds.fetches - reading.fetches) *
    (bounds.file + 2) + left_to_read reading.files.items
