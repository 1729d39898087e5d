-- Samples: clauses that are drawn, and how many answers their entries have (this project's
-- profile).
use Rattle.std.specs.Prelude.{◌≡◌, ℕ, ◌+◌, ◌≤◌, List, [], ◌∷◌, length}
use Rattle.si_defs.specs.Bytes.{Bytes}
use Rattle.si_defs.specs.Clauses.{Clause, Pattern}
use Rattle.si_defs.specs.Entries.{Placed, pattern_entry}
use Rattle.si_defs.specs.Generator.{IsSample}
use Rattle.si_defs.specs.declared.Relation.TheVariants.{Unifiable}
use Rattle.si_state.specs.declared.TheConstants.{GREATEST_START, MOST_DRAWN}
use Rattle.si_state.specs.Answers.{Hit, IsAnswer}
use Rattle.si_state.specs.Harvest.{AreClauses}

-- a sample may be asked for with this start and so many clauses
pub record AllowsSample (start count : ℕ) : Type 0 where
  pub start_fits : start ≤ GREATEST_START
  pub some : 1 ≤ count
  pub count_fits : count ≤ MOST_DRAWN

-- these are the clauses that are drawn
abbrev pub AreDrawn : ℕ → ℕ → List Clause → Type 0
AreDrawn start count clauses = (text : Bytes) × IsSample start count text × AreClauses clauses text

-- Each of the entries `es`, as a pattern, has answers of `unifiable` among the entries `all`: so
-- many together.
abbrev pub SumsAnswers : List (Clause × Placed) → List (Clause × Placed) → ℕ → Type 0
SumsAnswers all [] sum = sum ≡ 0
SumsAnswers all ((c, e) ∷ es) sum =
    (pattern : Pattern) × (hits : List Hit) × (others : ℕ)
    × (pattern_entry pattern ≡ e.entry) × IsAnswer Unifiable pattern all hits
    × SumsAnswers all es others
    × (sum ≡ length hits + others)
