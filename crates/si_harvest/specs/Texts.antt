-- What a text of clauses adds, and why it is refused.
use Rattle.std.specs.Prelude.{◌≡◌, ℕ, List}
use Rattle.si_defs.specs.Bytes.{Bytes}
use Rattle.si_defs.specs.Clauses.{Clause}
use Rattle.si_defs.specs.Grammar.{clause_item}
use Rattle.si_state.specs.States.{Rules}
use Rattle.si_state.specs.Acceptance.{Accepts}
use Rattle.si_state.specs.Harvest.{Fault, rejected, AreClauses, IsFirstRefused, IsRejected}
use Rattle.si_parse.specs.Reading.{IsItemRead}
use Rattle.si_harvest.specs.declared.faults.Loaded.{Loaded}
use Rattle.si_harvest.specs.Gains.{Gained}

-- exactly the clauses of the text were gained
abbrev pub GainsText : Rules → List Clause → Bytes → Loaded → List Clause → Type 0
GainsText rules start bytes loaded kept =
    (all : Gained rules start loaded kept)
    × ((clauses : List Clause) → AreClauses clauses bytes → clauses ≡ all.gained)

-- the fault is the first of these clauses that is refused, and why
abbrev pub RefusesFirst : Rules → List Clause → List Clause → Fault → Type 0
RefusesFirst rules start clauses (rejected c refusal) = IsFirstRefused rules start clauses c refusal
RefusesFirst rules start clauses fault = ⊥

-- and these are the clauses of the text
abbrev pub RefusesText : Rules → List Clause → Bytes → Fault → Type 0
RefusesText rules start bytes fault = (clauses : List Clause) → AreClauses clauses bytes
    → RefusesFirst rules start clauses fault

-- ---- one clause of a text
-- the clause after a place was accepted
pub record TakesNext (rules : Rules) (bytes : Bytes) (at end : ℕ)
    (before after : List Clause) : Type 0 where
  pub clause : Clause
  pub read : IsItemRead bytes at (clause_item clause) end
  pub accepted : Accepts rules before clause after

-- it is refused
abbrev pub RefusesNext : Rules → Bytes → ℕ → List Clause → Fault → Type 0
RefusesNext rules bytes at kept fault =
    (clause : Clause) × (end : ℕ) × IsItemRead bytes at (clause_item clause) end
    × IsRejected rules kept clause fault
