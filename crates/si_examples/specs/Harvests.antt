-- What is read of files.
use Rattle.std.specs.Prelude.{ℕ, cond, List, [], ◌∷◌, ◌++◌, None, Some, bytes_eq, codes}
use Rattle.si_defs.specs.Bytes.{Bytes}
use Rattle.si_defs.specs.Clauses.{Clause}
use Rattle.si_state.specs.States.{Rules, limited_to}
use Rattle.si_state.specs.Acceptance.{taken}
use Rattle.si_state.specs.Harvest.{Files, Bounds, Event, ask, attempt, cycle, too_deep, too_many, missing, too_big, failed, foreign, malformed, rejected, IsBarred, Loads}
use Rattle.si_examples.specs.Entries.{fact, predicate}

-- these files and no others
abbrev pub files_of : List (Bytes × Bytes) → Files
files_of [] name = None
files_of (file ∷ files) name = cond (bytes_eq file.0 name) (Some file.1) (files_of files name)

abbrev pub bounds : (file fetches depth : ℕ) → Bounds
bounds file fetches depth = record { file = file; fetches = fetches; depth = depth }

abbrev pub c : Clause
c = fact (codes "c") (predicate (codes "p") [])

-- `cnf(c,axiom,p).` alone
abbrev pub plain : Files
plain = files_of ((codes "a", codes "cnf(c,axiom,p).") ∷ [])

-- its clause is tried
abbrev pub PlainFile : Type 0
PlainFile =
    Loads plain (bounds 15 1 1) (limited_to 2) [] (codes "a")
    (ask (codes "a") ∷ attempt c ∷ []) None

-- with one byte less the file is too big
abbrev pub BigFile : Type 0
BigFile =
    Loads plain (bounds 14 1 1) (limited_to 2) [] (codes "a") (ask (codes "a") ∷ [])
    (Some (too_big (codes "a")))

-- a name that no file has
abbrev pub MissingFile : Type 0
MissingFile =
    Loads plain (bounds 15 1 1) (limited_to 2) [] (codes "b") (ask (codes "b") ∷ [])
    (Some (missing (codes "b")))

-- and never is such a file read to its end
abbrev pub NoMissingFile : Type 0
NoMissingFile = (limits : Bounds) (rules : Rules) (kept : List Clause) (events : List Event)
    → Loads plain limits rules kept (codes "b") events None → ⊥

-- a library may fail, whatever it holds
abbrev pub FailedFile : Type 0
FailedFile =
    Loads plain (bounds 15 1 1) (limited_to 2) [] (codes "a") (ask (codes "a") ∷ [])
    (Some (failed (codes "a")))

-- a name that is kept is taken
abbrev pub TakenNameOfALoad : Type 0
TakenNameOfALoad =
    Loads plain (bounds 15 1 1) (limited_to 2) (c ∷ []) (codes "a")
    (ask (codes "a") ∷ attempt c ∷ []) (Some (rejected c taken))

-- of two clauses that are included, the one that is listed
abbrev pub selecting : Files
selecting =
    files_of ((codes "a", codes "cnf(c,axiom,p).cnf(d,axiom,q).")
    ∷ (codes "m", codes "include('a',[c]).") ∷ [])

abbrev pub SelectedClause : Type 0
SelectedClause =
    Loads selecting (bounds 30 2 2) (limited_to 2) [] (codes "m")
    (ask (codes "m") ∷ ask (codes "a") ∷ attempt c ∷ []) None

-- a file that includes another, and itself
abbrev pub includes : Bytes → Files
includes name = files_of ((codes "a", codes "include('" ++ name ++ codes "').") ∷ [])

-- the file is open already, and so it does not matter that no more files may be open or fetched
abbrev pub OwnInclude : Type 0
OwnInclude =
    Loads (includes (codes "a")) (bounds 15 1 1) (limited_to 2) [] (codes "a")
    (ask (codes "a") ∷ ask (codes "a") ∷ []) (Some (cycle (codes "a")))

-- never is an open file too deep
abbrev pub NoDepthOfOpenFile : Type 0
NoDepthOfOpenFile = (limits : Bounds) (made : ℕ) (opened : List Bytes)
    → IsBarred limits (codes "a" ∷ opened) made (codes "a") (too_deep (codes "a")) → ⊥

-- no more files may be open, and so it does not matter that none may be fetched
abbrev pub DeepInclude : Type 0
DeepInclude =
    Loads (includes (codes "b")) (bounds 15 1 1) (limited_to 2) [] (codes "a")
    (ask (codes "a") ∷ ask (codes "b") ∷ []) (Some (too_deep (codes "b")))

-- no more fetches may be made, and so it does not matter that the file is missing
abbrev pub LateInclude : Type 0
LateInclude =
    Loads (includes (codes "b")) (bounds 15 1 2) (limited_to 2) [] (codes "a")
    (ask (codes "a") ∷ ask (codes "b") ∷ []) (Some too_many)

-- a formula of another language stands on the second line, after a clause
abbrev pub SecondLine : Type 0
SecondLine =
    Loads (files_of ((codes "a", codes "cnf(c,axiom,p).\nfof(d,axiom,q).") ∷ []))
    (bounds 31 1 1) (limited_to 2) [] (codes "a")
    (ask (codes "a") ∷ attempt c ∷ []) (Some (foreign (codes "a") 2))

-- a word that begins no item stands on the first
abbrev pub FirstWord : Type 0
FirstWord =
    Loads (files_of ((codes "a", codes " p") ∷ [])) (bounds 2 1 1) (limited_to 2) [] (codes "a")
    (ask (codes "a") ∷ []) (Some (malformed (codes "a") 1))
