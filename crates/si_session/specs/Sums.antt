-- What a sample gains, why it is refused, and how many answers there are to its entries.
use Rattle.std.specs.Prelude.{◌≡◌, ℕ, ◌-◌, ◌*◌, ◌≤◌, ◌⊎◌, List, [], ◌∷◌, ◌++◌, length, drop, take}
use Rattle.si_defs.specs.Clauses.{Clause, Pattern}
use Rattle.si_defs.specs.Entries.{Entry, Placed, pattern_entry, state_entries}
use Rattle.si_defs.specs.declared.Relation.TheVariants.{Unifiable}
use Rattle.si_state.specs.States.{Rules}
use Rattle.si_state.specs.Answers.{Hit, IsAnswer}
use Rattle.si_state.specs.Harvest.{Fault}
use Rattle.si_state.specs.Samples.{AreDrawn, SumsAnswers}
use Rattle.si_steps.specs.Replies.{sample_line, memory_line}
use Rattle.si_io.specs.Shown.{SinkShown}
use Rattle.si_harvest.specs.declared.faults.Loaded.{Loaded}
use Rattle.si_harvest.specs.Gains.{Gained}
use Rattle.si_harvest.specs.Texts.{RefusesFirst}
use Rattle.si_session.specs.declared.stepped.Stepped.{Stepped}
use Rattle.si_session.specs.Session.{Writes}

-- ---- the clauses
-- so many clauses that are drawn from this start were gained
abbrev pub GainsSample : Rules → ℕ → ℕ → List Clause → Loaded → List Clause → Type 0
GainsSample rules start count kept loaded new =
    (all : Gained rules kept loaded new) × AreDrawn start count all.gained

-- the fault is the first of them that is refused, and why
abbrev pub RefusesSample : Rules → ℕ → ℕ → List Clause → Fault → Type 0
RefusesSample rules start count kept fault =
    (drawn : List Clause) × AreDrawn start count drawn × RefusesFirst rules kept drawn fault

-- ---- the sum
-- so many of the entries unify with the pattern
abbrev pub CountsUnifiable : List (Clause × Placed) → Pattern → ℕ → Type 0
CountsUnifiable all pattern n =
    (hits : List Hit) × IsAnswer Unifiable pattern all hits × (n ≡ length hits)

-- and with this entry, asked for as a pattern
abbrev pub CountsEntryAnswers : List (Clause × Placed) → Entry → ℕ → Type 0
CountsEntryAnswers all entry n =
    (pattern : Pattern) × (pattern_entry pattern ≡ entry) × CountsUnifiable all pattern n

-- the answers among the entries of all clauses to the entries of the last ones, so many of them
abbrev pub SumsLast : List Clause → ℕ → ℕ → Type 0
SumsLast clauses count sum =
    SumsAnswers (state_entries clauses) (state_entries (drop (length clauses - count) clauses)) sum

-- Some of these entries were asked for, and the others are left. No entry has more answers than a
-- number of 32 bits tells.
pub record SumsTo (all whole left : List (Clause × Placed)) (sum : ℕ) : Type 0 where
  pub asked : List (Clause × Placed)
  pub splits : whole ≡ asked ++ left
  pub sums : SumsAnswers all asked sum
  pub few : sum ≤ 4294967296 * length asked

-- The sum for what was gained was reported; or memory ran out, and it is gone again.
abbrev pub ReportsSum : Loaded → List Clause → List Clause → Stepped → SinkShown → SinkShown
    → Type 0
ReportsSum gained old new outcome before after =
    ((sum : ℕ) × SumsLast old gained.clauses sum × (new ≡ old)
    × Writes outcome (sample_line gained.clauses gained.entries sum ∷ []) before after)
    ⊎ ((new ≡ take (length old - gained.clauses) old)
    × Writes outcome (memory_line ∷ []) before after)
