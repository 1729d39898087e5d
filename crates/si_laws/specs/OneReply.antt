-- That there is at most one right reply, numbers of nodes aside, and one right state after it.
use Rattle.std.specs.Prelude.{◌≡◌, ℕ, ◌⊎◌, List, [], ◌∷◌, Option, Some}
use Rattle.si_defs.specs.Bytes.{Bytes}
use Rattle.si_defs.specs.Entries.{state_symbols}
use Rattle.si_state.specs.States.{State, empty_state}
use Rattle.si_state.specs.Acceptance.{HasDistinctNames, AllAgree}
use Rattle.si_state.specs.Harvest.{Files}
use Rattle.si_steps.specs.Settings.{Setting}
use Rattle.si_steps.specs.Commands.{Command, load, tree, explain, Means}
use Rattle.si_steps.specs.Loads.{Owed, PerformsLoad}
use Rattle.si_steps.specs.Replies.{Reply, NodeCounts, tree_reply, explain_line}
use Rattle.si_steps.specs.Steps.{Performs, RightStep}
use Rattle.si_steps.specs.FileWords.{RightWord}
use Rattle.si_steps.specs.Runs.{Request, a_word, a_line}

-- names are distinct, and each symbol has one side and one arity
pub record IsConsistent (state : State) : Type 0 where
  pub distinct : HasDistinctNames state.clauses
  pub agree : AllAgree [] (state_symbols state.clauses)

-- the reply reports no failure of the library
abbrev pub ReportsNoFailure : Owed → Type 0
ReportsNoFailure owed = owed.failures ≡ 0

-- ---- commands
-- Two replies to the command are alike: they are the same, but that numbers of nodes are free.
abbrev pub AreAlike : Command → Reply → Reply → Type 0
AreAlike tree reply other =
    (literals terms literals_too terms_too : NodeCounts)
    × (reply ≡ tree_reply literals terms) × (other ≡ tree_reply literals_too terms_too)
AreAlike (explain relation pattern) reply other =
    (answers passed nodes passed_too nodes_too : ℕ)
    × (reply ≡ explain_line passed nodes answers ∷ [])
    × (other ≡ explain_line passed_too nodes_too answers ∷ [])
AreAlike command reply other = reply ≡ other

-- two right outcomes of the command are the same, with replies that are alike
abbrev pub HasOneOutcome : Setting → Command → State → Type 0
HasOneOutcome setting command state =
    (reply other : Reply) (new behind : State)
    → Performs setting command state reply new → Performs setting command state other behind
    → AreAlike command reply other × (new ≡ behind)

-- two right outcomes of a load of the file are the same, where none reports a failure
abbrev pub LoadsToOneOutcome : Setting → Files → Bytes → State → Type 0
LoadsToOneOutcome setting files file state =
    (reply other : Reply) (owed due : Owed) (new behind : State)
    → PerformsLoad setting (Some files) file state reply owed new
    → PerformsLoad setting (Some files) file state other due behind
    → ReportsNoFailure owed → ReportsNoFailure due → (reply ≡ other) × (owed ≡ due) × (new ≡ behind)

-- the line is one command at most
abbrev pub HasOneMeaning : Bytes → Type 0
HasOneMeaning line = (one other : Command) → Means one line → Means other line → one ≡ other

-- ---- lines
-- two replies to the line are the same, or alike for the command that it is
abbrev pub AreAlikeTo : Bytes → Reply → Reply → Type 0
AreAlikeTo line reply other =
    (reply ≡ other) ⊎ ((command : Command) × Means command line × AreAlike command reply other)

-- two right steps over the line are the same, with replies that are alike, where none reports
-- a failure
abbrev pub OneRightStep : Setting → Files → State → Bytes → Type 0
OneRightStep setting files state line =
    (reply other : Reply) (owed due : Owed) (new behind : State)
    → RightStep setting (Some files) state line reply owed new
    → RightStep setting (Some files) state line other due behind
    → ReportsNoFailure owed → ReportsNoFailure due
    → AreAlikeTo line reply other × (owed ≡ due) × (new ≡ behind)

-- the line loads no file
abbrev pub LoadsNothing : Bytes → Type 0
LoadsNothing line = (file : Bytes) → Means (load file) line → ⊥

-- so are two right steps whatever the two libraries tell
abbrev pub OneStepOfAnyLibrary : Setting → State → Bytes → Type 0
OneStepOfAnyLibrary setting state line =
    (told tell : Option Files) (reply other : Reply) (owed due : Owed) (new behind : State)
    → RightStep setting told state line reply owed new
    → RightStep setting tell state line other due behind
    → AreAlikeTo line reply other × (owed ≡ due) × (new ≡ behind)

-- a right step keeps the state so
abbrev pub StaysConsistent : Setting → Option Files → State → Bytes → Type 0
StaysConsistent setting told state line =
    (reply : Reply) (owed : Owed) (new : State) → IsConsistent state
    → RightStep setting told state line reply owed new → IsConsistent new

-- ---- sessions
-- two right steps over the word are the same, where none reports a failure
abbrev pub OneRightWord : Setting → Files → State → Bytes → Type 0
OneRightWord setting files state word =
    (reply other : Reply) (owed due : Owed) (new behind : State)
    → RightWord setting (Some files) state word reply owed new
    → RightWord setting (Some files) state word other due behind
    → ReportsNoFailure owed → ReportsNoFailure due → (reply ≡ other) × (owed ≡ due) × (new ≡ behind)

-- what is rightly done at a request
abbrev pub RightlyActs : Setting → Files → State → Request → Reply → Owed → State → Type 0
RightlyActs setting files state (a_word word) reply owed new =
    RightWord setting (Some files) state word reply owed new
RightlyActs setting files state (a_line line) reply owed new =
    RightStep setting (Some files) state line reply owed new

-- From this state on the requests have these right replies, of which none reports a failure, and
-- the new state stands after them.
abbrev pub RightRun : Setting → Files → State → List Request → List Reply → State → Type 0
RightRun setting files state [] replies new = (replies ≡ []) × (new ≡ state)
RightRun setting files state (request ∷ requests) replies new =
    (reply : Reply) × (owed : Owed) × (next : State) × (others : List Reply)
    × RightlyActs setting files state request reply owed next × ReportsNoFailure owed
    × RightRun setting files next requests others new × (replies ≡ reply ∷ others)

-- two replies to the request are alike
abbrev pub AreAlikeAt : Request → Reply → Reply → Type 0
AreAlikeAt (a_word word) reply other = reply ≡ other
AreAlikeAt (a_line line) reply other = AreAlikeTo line reply other

-- two lists have a reply to each of the requests, and the two are alike
abbrev pub AreAllAlike : List Request → List Reply → List Reply → Type 0
AreAllAlike [] [] [] = Unit {0}
AreAllAlike (request ∷ requests) (reply ∷ replies) (other ∷ others) =
    AreAlikeAt request reply other × AreAllAlike requests replies others
AreAllAlike _ _ _ = ⊥

-- two right runs over the requests, from the empty state, are the same, with replies that are alike
abbrev pub OneRightRun : Setting → Files → List Request → Type 0
OneRightRun setting files requests =
    (replies others : List Reply) (new behind : State)
    → RightRun setting files empty_state requests replies new
    → RightRun setting files empty_state requests others behind
    → AreAllAlike requests replies others × (new ≡ behind)
