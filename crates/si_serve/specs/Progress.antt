-- How far a run has come: the bytes that were acted on, and what stands after them.
use Rattle.std.specs.Prelude.{◌≡◌, ℕ, ◌+◌, ◌≤◌, Bool, List, [], ◌++◌, Option, length, map, take, IsTrue, Result, Ok, Err, OnOk, IfErr}
use Rattle.si_defs.specs.Bytes.{Bytes}
use Rattle.si_steps.specs.declared.limits.Limits.{Limits}
use Rattle.si_steps.specs.Settings.{Setting}
use Rattle.si_steps.specs.Replies.{Reply}
use Rattle.si_state.specs.States.{State, empty_state}
use Rattle.si_state.specs.Harvest.{Files}
use Rattle.si_steps.specs.Loads.{Owed}
use Rattle.si_session.specs.Session.{View, Around}
use Rattle.si_steps.specs.Runs.{ended, SplitsLines, lines_at_end, Request, a_word, requests, Acts, GoesOn}
use Rattle.si_session.specs.declared.stepped.Stepped.{Stepped}
use Rattle.si_session.specs.declared.stepped.Stepped.TheVariants.{Refused, SinkFailed}
use Rattle.si_io.specs.Sends.{SendsAll}
use Rattle.si_io.specs.Gives.{Gives}
use Rattle.si_io.specs.Shown.{SourceShown, SinkShown, KeepsFiles}
use Rattle.si_serve.specs.declared.status.Stop.{Stop}
use Rattle.si_serve.specs.declared.status.Stop.TheVariants as stop
use Rattle.si_serve.specs.Shown.{ShowsAt, ShownRun}
use Rattle.si_serve.specs.Serve.{WritesAll, WritesTo, StopsAt, BeginWith, CountsOwed, BlamesSink, TellsNoEnd}

-- What is held of a line that was begun: its bytes up to one more than a line may have.
abbrev pub shown : Limits → Bytes → Bytes
shown limits rest = take (limits.line + 1) rest

-- how a run goes on after a step
abbrev pub Judges : (strict : Bool) → Stepped → Result (Unit {0}) Stop → Type 0
Judges strict outcome (Ok done) =
    (outcome ≡ SinkFailed → ⊥) × (IsTrue strict → outcome ≡ Refused → ⊥)
Judges strict outcome (Err stop.Refused) = (outcome ≡ Refused) × IsTrue strict
Judges strict outcome (Err stop.SinkFault) = outcome ≡ SinkFailed

-- A request was acted on and its reply written, and the run goes on.
pub record ActsOnRequest (setting : Setting) (told : Option Files) (strict : Bool)
    (old new : State) (request : Request) (before after : Around) : Type 0 where
  pub reply : Reply
  pub owed : Owed
  pub step : Acts setting told old request reply owed new
  pub shows : ShowsAt setting old request reply
  pub goes : GoesOn strict reply
  pub written : SendsAll before.sink (ended reply) after.sink
  pub counted : CountsOwed owed before after

-- A request was acted on, and the run stopped at its reply.
pub record Breaks (halt : Stop) (setting : Setting) (told : Option Files) (strict : Bool)
    (old new : State) (request : Request) (before after : Around) : Type 0 where
  pub reply : Reply
  pub owed : Owed
  pub step : Acts setting told old request reply owed new
  pub shows : ShowsAt setting old request reply
  pub written : StopsAt halt strict reply before.sink after.sink
  pub counted : CountsOwed owed before after

-- From the start on, where `before` was written, these words were acted on: they gave their output
-- and the state.
pub record LoadsWords (setting : Setting) (told : Option Files) (strict : Bool) (words : List Bytes)
    (before : Around) (state : State) (after : Around) : Type 0 where
  pub output : Bytes
  pub owed : Owed
  pub run : ShownRun setting told strict empty_state (map a_word words) output owed state
  pub written : SendsAll before.sink output after.sink
  pub counted : CountsOwed owed before after

-- From the start on, where `before` was written, the words and these bytes were acted on: the words
-- and the lines that are whole in the bytes gave their output and the state, and of the
-- rest, a line that was begun, the front is held.
pub record Progress (setting : Setting) (told : Option Files) (strict : Bool) (files : List Bytes)
    (before : Around) (taken : Bytes) (state : State) (held : Bytes)
    (after : Around) : Type 0 where
  pub lines : List Bytes
  pub rest : Bytes
  pub output : Bytes
  pub owed : Owed
  pub splits : SplitsLines taken lines rest
  pub holds : held ≡ shown setting.limits rest
  pub run : ShownRun setting told strict empty_state (requests files lines) output owed state
  pub written : SendsAll before.sink output after.sink
  pub counted : CountsOwed owed before after

-- These bytes carry every progress on.
abbrev pub CarriesOn : Setting → Option Files → (strict : Bool)
    → (bytes : Bytes) (old : State) (held : Bytes) (now : Around) (new : State)
    (holds : Bytes) (after : Around) → Type 0
CarriesOn setting told strict bytes old held now new holds after =
    (files : List Bytes) (before : Around) (taken : Bytes)
    → Progress setting told strict files before taken old held now
    → Progress setting told strict files before (taken ++ bytes) new holds after

-- Of these bytes all but the rest carry every progress on.
pub record Feeds (setting : Setting) (told : Option Files) (strict : Bool) (bytes : Bytes)
    (old : State) (held : Bytes) (now : Around) (rest : Bytes) (new : State)
    (holds : Bytes) (after : Around) : Type 0 where
  pub done : Bytes
  pub whole : bytes ≡ done ++ rest
  pub advances : CarriesOn setting told strict done old held now new holds after

-- The run stopped at one of the lines that are whole after these bytes, and all that were whole
-- before them were done.
pub record BrokenOff (halt : Stop) (setting : Setting) (told : Option Files) (strict : Bool)
    (files : List Bytes) (before : Around) (taken bytes : Bytes) (after : Around) : Type 0 where
  pub lines : List Bytes
  pub rest : Bytes
  pub splits : SplitsLines (taken ++ bytes) lines rest
  pub part : WritesTo halt setting told strict files lines before after
  pub acted : (whole : List Bytes) (begun : Bytes) → SplitsLines taken whole begun
      → BeginWith files whole part.right.done

-- These bytes end every progress at a reply.
abbrev pub Fails : Stop → Setting → Option Files → (strict : Bool)
    → (bytes : Bytes) (old : State) (held : Bytes) (now after : Around) → Type 0
Fails halt setting told strict bytes old held now after =
    (files : List Bytes) (before : Around) (taken : Bytes)
    → Progress setting told strict files before taken old held now
    → BrokenOff halt setting told strict files before taken bytes after

-- The input ended after the bytes taken, and every line was acted on.
pub record Closed (setting : Setting) (told : Option Files) (strict : Bool) (files : List Bytes)
    (before : Around) (taken : Bytes) (after : Around) : Type 0 where
  pub lines : List Bytes
  pub rest : Bytes
  pub splits : SplitsLines taken lines rest
  pub all : WritesAll setting told strict files (lines_at_end lines rest) before after

-- The input ended after the bytes taken, and the run stopped at the last line.
pub record Cut (halt : Stop) (setting : Setting) (told : Option Files) (strict : Bool)
    (files : List Bytes) (before : Around) (taken : Bytes) (after : Around) : Type 0 where
  pub lines : List Bytes
  pub rest : Bytes
  pub splits : SplitsLines taken lines rest
  pub part : WritesTo halt setting told strict files (lines_at_end lines rest) before after
  pub acted : part.right.done ≡ requests files lines

-- The end of the input closes every progress.
abbrev pub Closes : Setting → Option Files → (strict : Bool)
    → (state : State) (held : Bytes) (now after : Around) → Type 0
Closes setting told strict state held now after =
    (files : List Bytes) (before : Around) (taken : Bytes)
    → Progress setting told strict files before taken state held now
    → Closed setting told strict files before taken after

-- The run stops at the last line of the input.
abbrev pub CutsRun : Stop → Setting → Option Files → (strict : Bool)
    → (state : State) (held : Bytes) (now after : Around) → Type 0
CutsRun halt setting told strict state held now after =
    (files : List Bytes) (before : Around) (taken : Bytes)
    → Progress setting told strict files before taken state held now
    → Cut halt setting told strict files before taken after

-- So many bytes were taken from the source so far, before it told its end, and this is the progress
-- over them.
pub record HasProgressed (setting : Setting) (told : Option Files) (strict : Bool)
    (files : List Bytes) (count : ℕ) (source now : SourceShown) (before : Around)
    (state : State) (held : Bytes) (after : Around) : Type 0 where
  pub taken : Bytes
  pub size : length taken ≡ count
  pub gives : Gives source taken now
  pub unended : TellsNoEnd source now
  pub progress : Progress setting told strict files before taken state held after

-- ---- what the parts of a run did, each to its end or to a stop
-- The sink's count of faults is one more where the run stops by its fault, and else as before.
pub record CountsStop (result : Result (Unit {0}) Stop) (before after : SinkShown) : Type 0 where
  pub later : before.counts.faults ≤ after.counts.faults
  pub kept : OnOk result (after.counts.faults ≡ before.counts.faults)
  pub blames : IfErr result
      (λ halt. BlamesSink halt before.counts.faults after.counts.faults)

-- Beside what was acted on, the setting stays and so do the library's files, and a fault of the
-- sink is counted where it stops the run.
pub record KeepsRest (result : Result (Unit {0}) Stop) (old new : View) (before after : Around)
    : Type 0 where
  pub setting : new.setting ≡ old.setting
  pub library : KeepsFiles before.library after.library
  pub faults : CountsStop result before.sink after.sink

-- A request was acted on, or the run stopped at its reply.
pub record ActsOrStops (strict : Bool) (result : Result (Unit {0}) Stop) (old new : View)
    (request : Request) (before after : Around) : Type 0 where
  pub acted : OnOk result (ActsOnRequest old.setting before.library.files strict old.state
      new.state request before after)
  pub broken : IfErr result (λ halt. Breaks halt old.setting before.library.files strict
      old.state new.state request before after)
  pub rest : KeepsRest result old new before after

-- These words were acted on from the start on, or the run stopped at the reply to one of them.
pub record LoadsOrStops (strict : Bool) (result : Result (Unit {0}) Stop) (old new : View)
    (words : List Bytes) (before after : Around) : Type 0 where
  pub loaded : OnOk result (LoadsWords old.setting before.library.files strict words before
      new.state after)
  pub broken : IfErr result (λ halt. WritesTo halt old.setting before.library.files strict words
      [] before after)
  pub rest : KeepsRest result old new before after

-- The lines that end in these bytes were acted on, and the front of one that doesn't is held; or
-- the run stopped at the reply to one of them.
pub record FeedsOrStops (strict : Bool) (result : Result (Unit {0}) Stop) (old new : View)
    (bytes held holds : Bytes) (before after : Around) : Type 0 where
  pub fed : OnOk result (CarriesOn old.setting before.library.files strict bytes old.state held
      before new.state holds after)
  pub broken : IfErr result (λ halt. Fails halt old.setting before.library.files strict bytes
      old.state held before after)
  pub rest : KeepsRest result old new before after

-- The last line was acted on, if one was begun, or the run stopped at its reply.
pub record ClosesOrStops (strict : Bool) (result : Result (Unit {0}) Stop) (old new : View)
    (held : Bytes) (before after : Around) : Type 0 where
  pub closed : OnOk result (Closes old.setting before.library.files strict old.state held before
      after)
  pub cut : IfErr result (λ halt. CutsRun halt old.setting before.library.files strict old.state
      held before after)
  pub rest : KeepsRest result old new before after
