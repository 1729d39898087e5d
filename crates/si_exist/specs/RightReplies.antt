-- That each line and each word has a right reply, and a session a right run.
use Rattle.std.specs.Prelude.{List, Option}
use Rattle.si_defs.specs.Bytes.{Bytes}
use Rattle.si_state.specs.States.{State, empty_state}
use Rattle.si_state.specs.Harvest.{Files}
use Rattle.si_steps.specs.Settings.{Setting}
use Rattle.si_steps.specs.Loads.{Owed}
use Rattle.si_steps.specs.Replies.{Reply}
use Rattle.si_steps.specs.Steps.{RightStep}
use Rattle.si_steps.specs.FileWords.{RightWord}
use Rattle.si_steps.specs.Runs.{Request}
use Rattle.si_laws.specs.OneReply.{ReportsNoFailure, RightRun}
use Rattle.si_exist.specs.OneList.{IsNotAbsent}

-- Of these replies, each with what it owes and the state after it, there is one that reports no
-- failure of the library.
abbrev pub HasOneWithoutFailure : (Reply → Owed → State → Type 0) → Type 0
HasOneWithoutFailure P =
    IsNotAbsent ((reply : Reply) × (owed : Owed) × (new : State) × P reply owed new
    × ReportsNoFailure owed)

-- the line has a right step
abbrev pub HasRightStep : Setting → Option Files → State → Bytes → Type 0
HasRightStep setting told state line = HasOneWithoutFailure (RightStep setting told state line)

-- the word that names a file has one
abbrev pub HasRightWord : Setting → Option Files → State → Bytes → Type 0
HasRightWord setting told state word = HasOneWithoutFailure (RightWord setting told state word)

-- From the empty state on the requests have right replies.
abbrev pub HasRightRun : Setting → Files → List Request → Type 0
HasRightRun setting files requests =
    IsNotAbsent ((replies : List Reply) × (new : State)
    × RightRun setting files empty_state requests replies new)
