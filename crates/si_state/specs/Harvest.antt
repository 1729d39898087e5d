-- Harvests: what is read of a file and its includes, in order, up to the first fault (TPTP's
-- include directive; the limits and the order of the faults are this project's profile).
use Rattle.std.specs.Prelude.{◌≡◌, ℕ, ◌+◌, ◌<◌, ◌≤◌, List, [], ◌∷◌, ◌++◌, length, Option, None, Some, IsSomeAnd}
use Rattle.std.specs.List.{AllByRecursion}
use Rattle.si_defs.specs.Bytes.{Bytes}
use Rattle.si_defs.specs.Clauses.{Name, Clause}
use Rattle.si_defs.specs.Substitutions.{IsAmong}
use Rattle.si_defs.specs.Tokens.{AreBlanks}
use Rattle.si_defs.specs.Grammar.{Selection, all, only, clause_item, include_item}
use Rattle.si_defs.specs.Texts.{BeginsWithItem, IsFaulty, IsForeign, IsPlace, line_of}
use Rattle.si_state.specs.States.{Rules}
use Rattle.si_state.specs.Acceptance.{Refusal, Accepts, Refuses}

-- files by name: the bytes of each, and None where no file has the name
abbrev pub Files : Type 0
Files = Bytes → Option Bytes

-- the most bytes of a file, the most fetches of a load, and the most files that are open at once
pub record Bounds : Type 0 where
  pub file : ℕ
  pub fetches : ℕ
  pub depth : ℕ

-- ---- events and faults
-- a file is asked for, or a clause is tried
pub data Event : Type 0 where
  ask : Bytes → Event
  attempt : Clause → Event

-- the clauses that were tried
abbrev pub tried : List Event → List Clause
tried [] = []
tried (ask file ∷ events) = tried events
tried (attempt c ∷ events) = c ∷ tried events

-- how many files were asked for
abbrev pub fetches : List Event → ℕ
fetches [] = 0
fetches (ask file ∷ events) = 1 + fetches events
fetches (attempt c ∷ events) = fetches events

-- Why a harvest ends early: the file is open already; too many files are open; too many fetches
-- were made; no file has the name; the file has too many bytes; the library failed; no item stands
-- on this line of the file, but a formula of another language does or does not; or the clause is
-- refused.
pub data Fault : Type 0 where
  cycle : Bytes → Fault
  too_deep : Bytes → Fault
  too_many : Fault
  missing : Bytes → Fault
  too_big : Bytes → Fault
  failed : Bytes → Fault
  foreign : Bytes → ℕ → Fault
  malformed : Bytes → ℕ → Fault
  rejected : Clause → Refusal → Fault

-- ---- opening a file
-- the file may be asked for, while these are open and after so many fetches
pub record MayAsk (bounds : Bounds) (opened : List Bytes) (made : ℕ) (file : Bytes) : Type 0 where
  pub fresh : IsAmong opened file → ⊥
  pub shallow : length opened < bounds.depth
  pub few : made < bounds.fetches

-- the first reason why it may not
abbrev pub IsBarred : Bounds → List Bytes → ℕ → Bytes → Fault → Type 0
IsBarred bounds opened made file (cycle name) = (name ≡ file) × IsAmong opened file
IsBarred bounds opened made file (too_deep name) =
    (name ≡ file) × (IsAmong opened file → ⊥) × (bounds.depth ≤ length opened)
IsBarred bounds opened made file too_many =
    (IsAmong opened file → ⊥) × (length opened < bounds.depth) × (bounds.fetches ≤ made)
IsBarred bounds opened made file fault = ⊥

-- the library doesn't give it; it may fail whatever its files are
abbrev pub IsWithheld : Files → Bounds → Bytes → Fault → Type 0
IsWithheld files bounds file (missing name) = (name ≡ file) × (files file ≡ None)
IsWithheld files bounds file (too_big name) =
    (name ≡ file) × IsSomeAnd (files file) (λ bytes. bounds.file < length bytes)
IsWithheld files bounds file (failed name) = name ≡ file
IsWithheld files bounds file fault = ⊥

-- ---- selections
-- the selections round the file of an include: those round the include, and its own if it has one
abbrev pub narrowed : Selection → List (List Name) → List (List Name)
narrowed all around = around
narrowed (only names) around = names ∷ around

-- each of these selections lists the name
abbrev pub IsSelected : List (List Name) → Name → Type 0
IsSelected around name = AllByRecursion (λ names. IsAmong names name) around

-- ---- reading
-- where a reading stands: the file, all its bytes, the names of the files that are open, this one
-- first, the selections round it, and the bytes that are left
pub record ReadingPoint : Type 0 where
  pub file : Bytes
  pub bytes : Bytes
  pub opened : List Bytes
  pub around : List (List Name)
  pub rest : Bytes

-- the place after the blanks is on this line of the file
abbrev pub IsOnLine : ReadingPoint → ℕ → Type 0
IsOnLine point line =
    (before : Bytes) × (place : Bytes) × IsPlace point.rest place × (point.bytes ≡ before ++ place)
    × (line ≡ line_of before)

-- no item stands here, nor the end of the file
abbrev pub IsStuck : ReadingPoint → Fault → Type 0
IsStuck point (foreign file line) =
    (file ≡ point.file) × IsFaulty point.rest × IsOnLine point line × IsForeign point.rest
IsStuck point (malformed file line) =
    (file ≡ point.file) × IsFaulty point.rest × IsOnLine point line × (IsForeign point.rest → ⊥)
IsStuck point fault = ⊥

-- ---- a clause that is refused
-- the fault is that the clause is refused where these are kept
abbrev pub IsRejected : Rules → List Clause → Clause → Fault → Type 0
IsRejected rules clauses clause (rejected c refusal) = (c ≡ clause)
    × Refuses rules clauses clause refusal
IsRejected rules clauses clause fault = ⊥

-- ---- the reading of files
module _ (files : Files) (bounds : Bounds) (rules : Rules) where
  mutual
    -- While these files are open, with these selections round it, after so many fetches and where
    -- these clauses are kept, the reading of a file gives these events, and a fault if it ends
    -- early.
    pub data Harvests : List Bytes → List (List Name) → ℕ → List Clause → Bytes → List Event
        → Option Fault → Type 0 where
      barred : (opened : List Bytes) (around : List (List Name)) (made : ℕ) (clauses : List Clause)
          (file : Bytes) (fault : Fault)
          → IsBarred bounds opened made file fault
          → Harvests opened around made clauses file (ask file ∷ []) (Some fault)
      withheld : (opened : List Bytes) (around : List (List Name)) (made : ℕ)
          (clauses : List Clause) (file : Bytes) (fault : Fault)
          → MayAsk bounds opened made file → IsWithheld files bounds file fault
          → Harvests opened around made clauses file (ask file ∷ []) (Some fault)
      fetched : (opened : List Bytes) (around : List (List Name)) (made : ℕ) (clauses : List Clause)
          (file bytes : Bytes)
          → MayAsk bounds opened made file → files file ≡ Some bytes → length bytes ≤ bounds.file
          → (events : List Event) (fault : Option Fault)
          → Continues
          (record {
            file = file;
            bytes = bytes;
            opened = file ∷ opened;
            around = around;
            rest = bytes;
          }) (made + 1) clauses
          events fault
          → Harvests opened around made clauses file (ask file ∷ events) fault

    -- From here to the end of the file, after so many fetches and where these clauses are kept,
    -- the reading gives these events, and a fault if it ends early.
    pub data Continues : ReadingPoint → ℕ → List Clause → List Event → Option Fault → Type 0 where
      ended : (point : ReadingPoint) (made : ℕ) (clauses : List Clause) → AreBlanks point.rest
          → Continues point made clauses [] None
      stuck : (point : ReadingPoint) (made : ℕ) (clauses : List Clause) (fault : Fault)
          → IsStuck point fault
          → Continues point made clauses [] (Some fault)
      passed_over : (point : ReadingPoint) (made : ℕ) (clauses : List Clause) (clause : Clause)
          (after : Bytes)
          → BeginsWithItem point.rest (clause_item clause) after
          → (IsSelected point.around clause.name → ⊥)
          → (events : List Event) (fault : Option Fault)
          → Continues (record point { rest = after }) made clauses events fault
          → Continues point made clauses events fault
      accepted : (point : ReadingPoint) (made : ℕ) (clauses : List Clause) (clause : Clause)
          (after : Bytes)
          → BeginsWithItem point.rest (clause_item clause) after
          → IsSelected point.around clause.name
          → Accepts rules clauses clause (clauses ++ clause ∷ [])
          → (events : List Event) (fault : Option Fault)
          → Continues (record point { rest = after }) made (clauses ++ clause ∷ []) events fault
          → Continues point made clauses (attempt clause ∷ events) fault
      refused : (point : ReadingPoint) (made : ℕ) (clauses : List Clause) (clause : Clause)
          (after : Bytes)
          → BeginsWithItem point.rest (clause_item clause) after
          → IsSelected point.around clause.name
          → (refusal : Refusal) → Refuses rules clauses clause refusal
          → Continues point made clauses (attempt clause ∷ []) (Some (rejected clause refusal))
      expanded : (point : ReadingPoint) (made : ℕ) (clauses : List Clause) (file : Bytes)
          (selection : Selection) (after : Bytes)
          → BeginsWithItem point.rest (include_item file selection) after
          → (inside events whole : List Event) (fault : Option Fault)
          → Harvests point.opened (narrowed selection point.around) made clauses file inside None
          → Continues (record point { rest = after }) (made + fetches inside)
          (clauses ++ tried inside) events fault
          → whole ≡ inside ++ events → Continues point made clauses whole fault
      broken_off : (point : ReadingPoint) (made : ℕ) (clauses : List Clause) (file : Bytes)
          (selection : Selection) (after : Bytes)
          → BeginsWithItem point.rest (include_item file selection) after
          → (events : List Event) (fault : Fault)
          → Harvests point.opened (narrowed selection point.around) made clauses file events
          (Some fault)
          → Continues point made clauses events (Some fault)

-- by these rules a load of the file gives these events, and a fault if it is refused
abbrev pub Loads : Files → Bounds → Rules → List Clause → Bytes → List Event → Option Fault
    → Type 0
Loads files bounds rules clauses file events fault =
    Harvests files bounds rules [] [] 0 clauses file events fault

-- the clauses after a load: those that were tried stand last, in order, or all is as it was
abbrev pub clauses_behind : List Clause → List Event → Option Fault → List Clause
clauses_behind clauses events None = clauses ++ tried events
clauses_behind clauses events (Some fault) = clauses

-- ---- clauses by themselves
-- the bytes are these clauses, each as an item, and blanks
abbrev pub AreClauses : List Clause → Bytes → Type 0
AreClauses [] bytes = AreBlanks bytes
AreClauses (c ∷ cs) bytes =
    (after : Bytes) × BeginsWithItem bytes (clause_item c) after × AreClauses cs after

-- tried in order, each is accepted
abbrev pub AreAccepted : Rules → List Clause → List Clause → Type 0
AreAccepted rules clauses [] = Unit {0}
AreAccepted rules clauses (c ∷ cs) =
    Accepts rules clauses c (clauses ++ c ∷ []) × AreAccepted rules (clauses ++ c ∷ []) cs

-- tried in order, this is the first that is refused
pub record IsFirstRefused (rules : Rules) (kept clauses : List Clause) (clause : Clause)
    (refusal : Refusal) : Type 0 where
  pub before : List Clause
  pub after : List Clause
  pub splits : clauses ≡ before ++ clause ∷ after
  pub earlier : AreAccepted rules kept before
  pub refused : Refuses rules (kept ++ before) clause refusal
