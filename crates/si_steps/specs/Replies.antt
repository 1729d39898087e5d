-- The replies to commands, line by line (this project's profile).
use Rattle.std.specs.Prelude.{ℕ, Bool, false, List, [], ◌∷◌, ◌++◌, length, map, codes, decimal}
use Rattle.si_defs.specs.Bytes.{Bytes}
use Rattle.si_defs.specs.Symbols.{Symbol}
use Rattle.si_defs.specs.Clauses.{Name}
use Rattle.si_defs.specs.Tokens.{begins_with}
use Rattle.si_defs.specs.Printing.{name_text, file_text, symbol_text, shape_text}
use Rattle.si_state.specs.Acceptance.{Refusal, taken, misused, full}
use Rattle.si_state.specs.Harvest.{Fault, cycle, too_deep, too_many, missing, too_big, failed, foreign, malformed, rejected}
use Rattle.si_state.specs.Answers.{Hit, hit_texts}
use Rattle.si_state.specs.Subsumption.{MappedClause, mapped_text}

-- lines, without their line feeds
abbrev pub Reply : Type 0
Reply = List Bytes

-- so many clauses with so many entries were gained
abbrev pub ok_line : ℕ → ℕ → Bytes
ok_line clauses gained = codes "ok " ++ decimal clauses ++ codes " " ++ decimal gained

-- so many lines stand before this one
abbrev pub end_line : ℕ → Bytes
end_line count = codes "end " ++ decimal count

-- so many clauses are kept, with so many entries and so many different symbols
abbrev pub stats_line : ℕ → ℕ → ℕ → Bytes
stats_line clauses entries symbols =
    codes "clauses " ++ decimal clauses ++ codes " entries " ++ decimal entries ++ codes " symbols "
    ++ decimal symbols

-- so many nodes, so many leaves, and so many leaves without a posting
pub record NodeCounts : Type 0 where
  pub nodes : ℕ
  pub leaves : ℕ
  pub unmerged : ℕ

-- those of the tree that is named
abbrev pub counts_line : Bytes → NodeCounts → Bytes
counts_line name counts =
    name ++ codes " nodes " ++ decimal counts.nodes ++ codes " leaves " ++ decimal counts.leaves
    ++ codes " unmerged " ++ decimal counts.unmerged

-- those of the tree of literals, and of the one of subterms
abbrev pub tree_reply : NodeCounts → NodeCounts → Reply
tree_reply literals terms =
    counts_line (codes "literals") literals ∷ counts_line (codes "terms") terms ∷ []

-- so many nodes are open of so many, and so many answers there are
abbrev pub explain_line : ℕ → ℕ → ℕ → Bytes
explain_line passed nodes answers =
    codes "passed " ++ decimal passed ++ codes " nodes " ++ decimal nodes ++ codes " answers "
    ++ decimal answers

-- so many clauses with so many entries were gained, and these, as patterns, have so many answers of
-- `unifiable` together
abbrev pub sample_line : ℕ → ℕ → ℕ → Bytes
sample_line clauses gained sum =
    codes "sample " ++ decimal clauses ++ codes " " ++ decimal gained ++ codes " " ++ decimal sum

abbrev pub taken_line : Name → Bytes
taken_line name = codes "! taken " ++ name_text name

-- the use that was tried, and the one that it goes against
abbrev pub misused_line : Symbol → Symbol → Bytes
misused_line found kept =
    codes "! use " ++ symbol_text found ++ codes " " ++ shape_text found.side found.arity
    ++ codes " " ++ shape_text kept.side kept.arity

-- the entries that there would be, and how many may be
abbrev pub full_line : ℕ → ℕ → Bytes
full_line needed limit = codes "! full " ++ decimal needed ++ codes " " ++ decimal limit

abbrev pub unknown_line : Name → Bytes
unknown_line name = codes "! unknown " ++ name_text name

-- why the clause of this name is refused where so many entries may be
abbrev pub refusal_line : ℕ → Name → Refusal → Bytes
refusal_line limit name taken = taken_line name
refusal_line limit name (misused occurrence found kept) = misused_line found kept
refusal_line limit name (full needed) = full_line needed limit

-- a word, and the name of a file
abbrev pub file_line : Bytes → Bytes → Bytes
file_line word file = word ++ file_text file

-- the same, and the number of a line of it
abbrev pub numbered_line : Bytes → Bytes → ℕ → Bytes
numbered_line word file line = file_line word file ++ codes " " ++ decimal line

abbrev pub fetches_line : Bytes
fetches_line = codes "! fetches"

-- why a load is refused where so many entries may be
abbrev pub fault_line : ℕ → Fault → Bytes
fault_line limit (cycle file) = file_line (codes "! cycle ") file
fault_line limit (too_deep file) = file_line (codes "! depth ") file
fault_line limit too_many = fetches_line
fault_line limit (missing file) = file_line (codes "! missing ") file
fault_line limit (too_big file) = file_line (codes "! big ") file
fault_line limit (failed file) = file_line (codes "! fault ") file
fault_line limit (foreign file line) = numbered_line (codes "! language ") file line
fault_line limit (malformed file line) = numbered_line (codes "! syntax ") file line
fault_line limit (rejected clause why) = refusal_line limit clause.name why

abbrev pub long_line : Bytes
long_line = codes "! long"

abbrev pub syntax_line : Bytes
syntax_line = codes "! syntax"

abbrev pub language_line : Bytes
language_line = codes "! language"

abbrev pub memory_line : Bytes
memory_line = codes "! memory"

-- the lines of an answer, and their number
abbrev pub answer_reply : List Hit → Reply
answer_reply hits = hit_texts hits ++ end_line (length hits) ∷ []

-- the same of clauses and their maps
abbrev pub mapped_reply : List MappedClause → Reply
mapped_reply ms = map mapped_text ms ++ end_line (length ms) ∷ []

-- the last line of the reply begins with `!`
abbrev pub is_refusal : Reply → Bool
is_refusal [] = false
is_refusal (line ∷ []) = begins_with 33 line
is_refusal (line ∷ next ∷ lines) = is_refusal (next ∷ lines)
