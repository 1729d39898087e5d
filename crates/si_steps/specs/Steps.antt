-- One command line: its reply and the state after it (this project's profile).
use Rattle.std.specs.Prelude.{◌≡◌, ℕ, ◌+◌, ◌⊎◌, List, [], ◌∷◌, ◌++◌, length, Option}
use Rattle.si_defs.specs.Bytes.{Bytes}
use Rattle.si_defs.specs.Clauses.{Clause, Pattern}
use Rattle.si_defs.specs.Entries.{Placed, entries, state_entries}
use Rattle.si_state.specs.States.{State}
use Rattle.si_state.specs.Acceptance.{IsTaken, Accepts, Refusal, Refuses, Removes}
use Rattle.si_state.specs.Signatures.{CountsSymbols}
use Rattle.si_defs.specs.declared.Relation.{Relation}
use Rattle.si_state.specs.Answers.{Stands, Hit, IsAnswer}
use Rattle.si_state.specs.Harvest.{Files, AreAccepted, IsFirstRefused}
use Rattle.si_state.specs.Subsumption.{MappedClause, AreSubsumers, AreSubsumed}
use Rattle.si_state.specs.Samples.{AreDrawn, SumsAnswers}
use Rattle.si_steps.specs.Settings.{Setting}
use Rattle.si_steps.specs.Commands.{Command, add, load, remove, query, subsumers, subsumed, stats, tree, explain, sample, Means, IsLong, IsShort, IsSilent, AddsForeign}
use Rattle.si_steps.specs.Replies.{Reply, NodeCounts, refusal_line, unknown_line, ok_line, stats_line, answer_reply, mapped_reply, tree_reply, explain_line, sample_line, long_line, language_line, syntax_line, memory_line}
use Rattle.si_steps.specs.declared.limits.Limits.{Limits}
use Rattle.si_steps.specs.Loads.{Owed, nothing, OwesFetches, PerformsLoad}

-- so many of these entries stand in the relation
abbrev pub CountsStanding : Relation → Pattern → List (Clause × Placed) → ℕ → Type 0
CountsStanding relation pattern [] n = n ≡ 0
CountsStanding relation pattern ((c, e) ∷ es) n =
    (Stands relation pattern e.entry
    × ((others : ℕ) × CountsStanding relation pattern es others × (n ≡ 1 + others)))
    ⊎ ((Stands relation pattern e.entry → ⊥) × CountsStanding relation pattern es n)

-- The command's reply and the state after it. A load goes by `PerformsLoad`. Numbers of nodes are
-- free here: a plain list of clauses has none.
abbrev pub Performs : Setting → Command → State → Reply → State → Type 0
Performs setting (add c) state reply new =
    ((why : Refusal) × Refuses setting.rules state.clauses c why
    × (reply ≡ refusal_line setting.rules.entries c.name why ∷ []) × (new ≡ state))
    ⊎ (Accepts setting.rules state.clauses c new.clauses
    × (reply ≡ ok_line 1 (length (entries c)) ∷ [])
    × (new ≡ record state { clauses = new.clauses }))
Performs setting (load file) state reply new = ⊥
Performs setting (remove name) state reply new =
    ((IsTaken state.clauses name → ⊥) × (reply ≡ unknown_line name ∷ []) × (new ≡ state))
    ⊎ ((removed : Clause) × Removes state.clauses name removed new.clauses
    × (reply ≡ ok_line 1 (length (entries removed)) ∷ [])
    × (new ≡ record state { clauses = new.clauses }))
Performs setting (query relation pattern) state reply new =
    (hits : List Hit) × IsAnswer relation pattern (state_entries state.clauses) hits
    × (reply ≡ answer_reply hits) × (new ≡ state)
Performs setting (subsumers formula) state reply new =
    (found : List MappedClause) × AreSubsumers formula state.clauses found
    × (reply ≡ mapped_reply found) × (new ≡ state)
Performs setting (subsumed formula) state reply new =
    (found : List MappedClause) × AreSubsumed formula state.clauses found
    × (reply ≡ mapped_reply found) × (new ≡ state)
Performs setting stats state reply new =
    (symbols : ℕ) × CountsSymbols state.clauses symbols
    × (reply ≡ stats_line (length state.clauses) (length (state_entries state.clauses)) symbols
    ∷ [])
    × (new ≡ state)
Performs setting tree state reply new =
    (literals terms : NodeCounts) × (reply ≡ tree_reply literals terms) × (new ≡ state)
Performs setting (explain relation pattern) state reply new =
    (passed nodes answers : ℕ)
    × CountsStanding relation pattern (state_entries state.clauses) answers
    × (reply ≡ explain_line passed nodes answers ∷ []) × (new ≡ state)
Performs setting (sample start count) state reply new =
    (drawn : List Clause) × AreDrawn start count drawn
    × (((clause : Clause) × (why : Refusal)
    × IsFirstRefused setting.rules state.clauses drawn clause why
    × (reply ≡ refusal_line setting.rules.entries clause.name why ∷ []) × (new ≡ state))
    ⊎ ((sum : ℕ) × AreAccepted setting.rules state.clauses drawn
    × SumsAnswers (state_entries new.clauses) (state_entries drawn) sum
    × (reply ≡ sample_line (length drawn) (length (state_entries drawn)) sum ∷ [])
    × (new ≡ record state { clauses = state.clauses ++ drawn })))

-- the line is no command
abbrev pub IsNoCommand : Bytes → Type 0
IsNoCommand line = (command : Command) → Means command line → ⊥

-- The right reply to a line over a library that may tell its files, what the reply owes to it, and
-- the right state after it. A library may fail at any fetch: that it did is a right reply too.
pub data RightStep (setting : Setting) (told : Option Files) (state : State) (line : Bytes)
    (reply : Reply) (owed : Owed) (new : State) : Type 0 where
  long : IsLong setting.limits line → reply ≡ long_line ∷ [] → owed ≡ nothing → new ≡ state
      → RightStep setting told state line reply owed new
  silent : IsSilent setting.limits line → reply ≡ [] → owed ≡ nothing → new ≡ state
      → RightStep setting told state line reply owed new
  foreign : IsShort setting.limits line → AddsForeign line → IsNoCommand line
      → reply ≡ language_line ∷ [] → owed ≡ nothing → new ≡ state
      → RightStep setting told state line reply owed new
  wrong : IsShort setting.limits line → (IsSilent setting.limits line → ⊥)
      → (AddsForeign line → ⊥) → IsNoCommand line
      → reply ≡ syntax_line ∷ [] → owed ≡ nothing → new ≡ state
      → RightStep setting told state line reply owed new
  performed : IsShort setting.limits line → (command : Command) → Means command line
      → Performs setting command state reply new → owed ≡ nothing
      → RightStep setting told state line reply owed new
  loaded : IsShort setting.limits line → (file : Bytes) → Means (load file) line
      → PerformsLoad setting told file state reply owed new
      → RightStep setting told state line reply owed new

-- what a reply that memory ran out owes at once: nothing, but where the line loads a file
abbrev pub OwesAtOnce : Setting → Option Files → State → Bytes → Owed → Type 0
OwesAtOnce setting told state line owed = (owed ≡ nothing)
    ⊎ ((file : Bytes) × Means (load file) line × OwesFetches setting told file state owed)

-- A step is right, or memory runs out, and the state stays: at once, whatever the right reply is,
-- or after some lines of the right reply, but not all. That never happens at a line that is too
-- long, nor at one without a reply.
pub data Step (setting : Setting) (told : Option Files) (state : State) (line : Bytes)
    (reply : Reply) (owed : Owed) (new : State) : Type 0 where
  right : RightStep setting told state line reply owed new
      → Step setting told state line reply owed new
  memory_at_once : (IsSilent setting.limits line → ⊥) → IsShort setting.limits line
      → reply ≡ memory_line ∷ [] → OwesAtOnce setting told state line owed → new ≡ state
      → Step setting told state line reply owed new
  memory_behind : (whole : Reply) (due : Owed) (next : State)
      → RightStep setting told state line whole due next
      → IsShort setting.limits line → (written left : Reply) → whole ≡ written ++ left
      → (left ≡ [] → ⊥)
      → reply ≡ written ++ memory_line ∷ [] → owed ≡ nothing → new ≡ state
      → Step setting told state line reply owed new
