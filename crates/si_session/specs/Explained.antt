-- What is reported of a query, and what became of the sink where it was.
use Rattle.std.specs.Prelude.{◌≡◌, Bool, [], ◌∷◌, ◌⊎◌}
use Rattle.si_defs.specs.Bytes.{Bytes}
use Rattle.si_defs.specs.Clauses.{Pattern}
use Rattle.si_defs.specs.declared.Relation.{Relation}
use Rattle.si_steps.specs.Commands.{explain}
use Rattle.si_steps.specs.Replies.{explain_line, memory_line}
use Rattle.si_parse.specs.Reading.{IsOfKind}
use Rattle.si_parse.specs.declared.pattern.PatternKind.{PatternKind}
use Rattle.si_io.specs.Shown.{SinkShown}
use Rattle.si_index.specs.Kept.{Kept}
use Rattle.si_index.specs.Engines.{asks_literals}
use Rattle.si_index.specs.Explaining.{Explains}
use Rattle.si_index.specs.declared.explain.Explained.{Explained}
use Rattle.si_session.specs.Commands.{IsPerformed}
use Rattle.si_session.specs.Session.{Writes}
use Rattle.si_session.specs.declared.stepped.Stepped.{Stepped}

-- its line was written, or that memory ran out
abbrev pub ReportsExplained : Kept → Relation → Pattern → Stepped → SinkShown → SinkShown → Type 0
ReportsExplained index relation p outcome before after =
    ((e : Explained) × Explains index relation p e
    × Writes outcome (explain_line e.passed e.nodes e.answers ∷ []) before after)
    ⊎ Writes outcome (memory_line ∷ []) before after

-- the line is the command to explain a query, and this is what the query passes and answers
abbrev pub IsExplained : Kept → Bytes → Explained → Type 0
IsExplained index line e =
    (relation : Relation) × (p : Pattern) × IsPerformed (explain relation p) line
    × Explains index relation p e

-- whether literals are asked for by patterns of this kind
abbrev pub AsksForLiterals : PatternKind → Bool → Type 0
AsksForLiterals kind literal = (p : Pattern) → IsOfKind kind p → literal ≡ asks_literals p
