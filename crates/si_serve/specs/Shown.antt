-- What the replies of a run show of trees.
use Rattle.std.specs.Prelude.{Bool, List, [], ◌∷◌, Option}
use Rattle.si_defs.specs.Bytes.{Bytes}
use Rattle.si_state.specs.States.{State, empty_state}
use Rattle.si_state.specs.Harvest.{Files}
use Rattle.si_steps.specs.Settings.{Setting}
use Rattle.si_steps.specs.Replies.{Reply}
use Rattle.si_steps.specs.Loads.{Owed}
use Rattle.si_steps.specs.Runs.{Request, a_word, a_line, Run, IsOutput, IsOutputTo}
use Rattle.si_session.specs.ShownTrees.{ShowsSome}

-- The numbers of nodes in the reply to a line are those of two legal trees that hold the entries of
-- the clauses that are kept at that moment.
abbrev pub ShowsAt : Setting → State → Request → Reply → Type 0
ShowsAt setting state (a_word word) reply = Unit {0}
ShowsAt setting state (a_line line) reply = ShowsSome setting.limits state line reply

-- so in each reply of this run
abbrev pub RunShows : (setting : Setting) (told : Option Files) (strict : Bool) (state : State)
    (requests : List Request) (output : Bytes) (owed : Owed) (new : State)
    → Run setting told strict state requests output owed new → Type 0
RunShows setting told strict state [] output owed new run = Unit {0}
RunShows setting told strict state (request ∷ requests) output owed new run =
    ShowsAt setting state request run.0
    × RunShows setting told strict run.2 requests run.3 run.4 new run.7

abbrev pub ShownRun : (setting : Setting) (told : Option Files) (strict : Bool) (state : State)
    (requests : List Request) (output : Bytes) (owed : Owed) (new : State) → Type 0
ShownRun setting told strict state requests output owed new =
    (run : Run setting told strict state requests output owed new)
    × RunShows setting told strict state requests output owed new run

-- of the run that this is the output of
abbrev pub OutputShows : (setting : Setting) (told : Option Files) (strict : Bool)
    (requests : List Request) (output : Bytes) (owed : Owed)
    → IsOutput setting told strict requests output owed → Type 0
OutputShows setting told strict requests output owed right =
    RunShows setting told strict empty_state requests output owed right.0 right.1

-- and so of one that stops at a reply
abbrev pub OutputToShows : (setting : Setting) (told : Option Files) (strict : Bool)
    (requests : List Request) (reply : Reply) (output : Bytes) (owed : Owed)
    → IsOutputTo setting told strict requests reply output owed → Type 0
OutputToShows setting told strict requests reply output owed right =
    RunShows setting told strict empty_state right.done right.before right.less right.state
    right.run
    × ShowsAt setting right.state right.last reply
