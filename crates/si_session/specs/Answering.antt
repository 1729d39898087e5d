-- The hits that were found, with the lists that are shown, and their lines.
use Rattle.std.specs.Prelude.{◌≡◌, ◌<◌, ℕ, List, [], ◌∷◌, ◌++◌, length, Result, Some, slice_get}
use Rattle.std.specs.List.{AllZip}
use Rattle.si_defs.specs.Bytes.{Bytes}
use Rattle.si_defs.specs.Clauses.{Name, Clause, Pattern}
use Rattle.si_defs.specs.Entries.{Place, Placed}
use Rattle.si_defs.specs.Variables.{Solution, variable_text}
use Rattle.si_defs.specs.Printing.{place_text, solution_text}
use Rattle.si_defs.specs.declared.Relation.{Relation}
use Rattle.si_state.specs.Answers.{Hit, Solves, hit_text}
use Rattle.si_steps.specs.Replies.{answer_reply}
use Rattle.si_steps.specs.Runs.{ended}
use Rattle.si_io.specs.Shown.{SinkShown}
use Rattle.si_io.specs.Sends.{Sends}
use Rattle.si_io.specs.declared.failed.Failed.{Failed}
use Rattle.si_index.specs.Finding.{Finding}
use Rattle.si_session.specs.Separators.{separator_text}
use Rattle.si_session.specs.declared.separator.Separator.TheVariants.{Space, LineFeed}

-- the hit of what was found at a position among these clauses, with a canonical list
pub record IsHitOf (relation : Relation) (pattern : Pattern) (clauses : List Clause)
    (found : ℕ × Placed) (hit : Hit) : Type 0 where
  pub clause : slice_get clauses found.0 ≡ Some hit.clause
  pub placed : hit.placed ≡ found.1
  pub solves : Solves relation pattern found.1.entry hit.solution

-- each stands at the position of a clause
abbrev pub IsInside : List Clause → ℕ × Placed → Type 0
IsInside clauses found = found.0 < length clauses

-- the line of the hit with this number
abbrev pub IsHitLine : Finding → ℕ → Bytes → Type 0
IsHitLine f n text =
    (found : ℕ × Placed) × (hit : Hit) × (slice_get f.hits n ≡ Some found)
    × IsHitOf f.relation f.pattern f.index.clauses found hit × (text ≡ ended (hit_text hit ∷ []))

-- the answer was written, or the sink failed at it
abbrev pub ReportsAnswer : Finding → Result (Unit {0}) Failed → SinkShown → SinkShown → Type 0
ReportsAnswer f result before after =
    (hits : List Hit) × AllZip (IsHitOf f.relation f.pattern f.index.clauses) f.hits hits
    × Sends result (ended (answer_reply hits)) before after

-- a line of a place and a list, with its end
unfoldable pub hit_line : Name → Place → Solution → Bytes
hit_line name place solution =
    place_text name place ++ separator_text Space ++ solution_text variable_text solution
    ++ separator_text LineFeed
