-- What a whole run of the program does: the input that it takes, the output that it writes, and how
-- it ends.
use Rattle.std.specs.Prelude.{◌≡◌, ℕ, ◌<◌, ◌≤◌, ◌⊎◌, List, [], ◌++◌, Option, length, Bool, false, IsTrue, IsFalse}
use Rattle.si_defs.specs.Bytes.{Bytes}
use Rattle.si_steps.specs.declared.limits.Limits.{Limits}
use Rattle.si_steps.specs.Settings.{Setting, setting_of}
use Rattle.si_steps.specs.Replies.{Reply, is_refusal}
use Rattle.si_steps.specs.Runs.{ended, SplitsLines, lines_at_end, Request, requests, IsOutput, IsOutputTo}
use Rattle.si_state.specs.Harvest.{Files}
use Rattle.si_steps.specs.Loads.{Owed}
use Rattle.si_session.specs.Session.{Around, around, HasCountedOwed}
use Rattle.si_io.specs.Counts.{raised}
use Rattle.si_io.specs.Faults.{Rose}
use Rattle.si_io.specs.Gives.{Gives}
use Rattle.si_io.specs.Shown.{SourceShown, SinkShown, LibraryShown}
use Rattle.si_io.specs.Sends.{SendsAll, SendsPart}
use Rattle.si_io.specs.Content.{Takes}
use Rattle.clap.specs.Words.{takes}
use Rattle.si_serve.specs.Words.{program, usage_line, Asked, asked_by, HasNoFault, IsPlain, has_strict, files_in}
use Rattle.std.specs.Io.KnownBytes.{IsAtEnd}
use Rattle.si_serve.specs.Shown.{OutputShows, OutputToShows}
use Rattle.si_serve.specs.declared.status.Status.{Status}
use Rattle.si_serve.specs.declared.status.Stop.{Stop}
use Rattle.si_serve.specs.declared.status.Stop.TheVariants as stop
use Rattle.si_serve.specs.declared.status.Status.TheVariants.{Ended, Refused, Usage, SourceFault, SinkFault, Memory, SessionLimit}

-- Exactly what is owed to the library was counted there, and no failure is owed to one that can't
-- fail.
pub record CountsOwed (owed : Owed) (before after : Around) : Type 0 where
  pub counts :
      HasCountedOwed before.library.may_fail owed before.library.counts after.library.counts
  pub same : after.library.may_fail ≡ before.library.may_fail

-- An output of these words and lines was written whole, the trees that it shows are such as hold
-- the kept entries, and what it owes to the library was counted.
pub record WritesAll (setting : Setting) (told : Option Files) (strict : Bool)
    (files lines : List Bytes) (before after : Around) : Type 0 where
  pub output : Bytes
  pub owed : Owed
  pub right : IsOutput setting told strict (requests files lines) output owed
  pub shown : OutputShows setting told strict (requests files lines) output owed right
  pub written : SendsAll before.sink output after.sink
  pub counted : CountsOwed owed before after

-- what was written of the reply at which the run stops
abbrev pub StopsAt : Stop → (strict : Bool) → Reply → SinkShown → SinkShown → Type 0
StopsAt stop.Refused strict reply before after =
    SendsAll before (ended reply) after × IsTrue strict × IsTrue (is_refusal reply)
StopsAt stop.SinkFault strict reply before after = SendsPart before (ended reply) after

-- The run stopped at the reply to one of these words and lines. The replies before it were written
-- whole, and then it, or at a fault of the sink a prefix of it, and nothing else; and what all of
-- them owe to the library was counted.
pub record WritesTo (stop : Stop) (setting : Setting) (told : Option Files) (strict : Bool)
    (files lines : List Bytes) (before after : Around) : Type 0 where
  pub reply : Reply
  pub output : Bytes
  pub owed : Owed
  pub right : IsOutputTo setting told strict (requests files lines) reply output owed
  pub shown : OutputToShows setting told strict (requests files lines) reply output owed right
  pub middle : SinkShown
  pub written : SendsAll before.sink right.before middle
  pub stopped : StopsAt stop strict reply middle after.sink
  pub counted : CountsOwed owed before after

-- The input ended, before as many bytes were taken as a session may have.
pub record MetEnd (limits : Limits) (taken : Bytes) (left : Option Bytes) : Type 0 where
  pub below : length taken < limits.session
  pub at_end : IsAtEnd left

-- The source told its end in between, once or not at all.
abbrev pub TellsEnd : SourceShown → SourceShown → Type 0
TellsEnd source now = now.counts.ends ≡ raised source.counts.ends

abbrev pub TellsNoEnd : SourceShown → SourceShown → Type 0
TellsNoEnd source now = now.counts.ends ≡ source.counts.ends

-- these requests begin with the words and lines
abbrev pub BeginWith : (files lines : List Bytes) → List Request → Type 0
BeginWith files lines done = (others : List Request) × (done ≡ requests files lines ++ others)

-- One read, the last one, brought the line at which the run stopped: all lines that were whole in
-- the bytes before were done by then.
pub record BringsLine (files : List Bytes) (taken : Bytes) (done : List Request)
    (source now : SourceShown) : Type 0 where
  pub earlier : Bytes
  pub brought : Bytes
  pub whole : taken ≡ earlier ++ brought
  pub middle : SourceShown
  pub gave : Gives source earlier middle
  pub read : Gives middle brought now
  pub once : now.counts.calls ≡ raised middle.counts.calls
  pub lines : List Bytes
  pub rest : Bytes
  pub splits : SplitsLines earlier lines rest
  pub acted : BeginWith files lines done

-- After the request at which the run stopped nothing was read: it is a word, before which nothing
-- was read either, or a line that the last read brought.
abbrev pub ReadsNoFurther : (files : List Bytes) (taken : Bytes) → List Request
    → (source now : SourceShown) → Type 0
ReadsNoFurther files taken done source now =
    (now ≡ source) ⊎ BringsLine files taken done source now

-- The run stopped at the reply to a word or a whole line, before the source told its end, and read
-- no further; or at that to the last line, after it.
abbrev pub StopsIn : Stop → Setting → Option Files → (strict : Bool)
    → (files : List Bytes) (taken : Bytes) (lines : List Bytes) (rest : Bytes)
    (source now : SourceShown) (before after : Around) → Type 0
StopsIn halt setting told strict files taken lines rest source now before after =
    (TellsNoEnd source now × (part : WritesTo halt setting told strict files lines before after)
    × ReadsNoFurther files taken part.right.done source now)
    ⊎ (TellsEnd source now × MetEnd setting.limits taken now.left
    × (part : WritesTo halt setting told strict files (lines_at_end lines rest) before after)
    × (part.right.done ≡ requests files lines))

-- Of a run that ends so: how far it took the input, of which words and lines it wrote the replies,
-- and how many bytes of them. The bytes that it took are these lines, and then the rest of a line
-- that was begun.
abbrev pub Ends : Status → Setting → Option Files → (strict : Bool)
    → (files : List Bytes) (taken : Bytes) (lines : List Bytes) (rest : Bytes)
    (source now : SourceShown) (before after : Around) → Type 0
Ends Ended setting told strict files taken lines rest source now before after =
    TellsEnd source now × MetEnd setting.limits taken now.left
    × WritesAll setting told strict files (lines_at_end lines rest) before after
Ends Refused setting told strict files taken lines rest source now before after =
    StopsIn stop.Refused setting told strict files taken lines rest source now before after
Ends Usage setting told strict files taken lines rest source now before after = ⊥
Ends SourceFault setting told strict files taken lines rest source now before after =
    TellsNoEnd source now × (length taken < setting.limits.session)
    × WritesAll setting told strict files lines before after
Ends SinkFault setting told strict files taken lines rest source now before after =
    StopsIn stop.SinkFault setting told strict files taken lines rest source now before after
Ends Memory setting told strict files taken lines rest source now before after =
    (taken ≡ []) × (now ≡ source) × (after ≡ before)
Ends SessionLimit setting told strict files taken lines rest source now before after =
    TellsNoEnd source now × (length taken ≡ setting.limits.session)
    × WritesAll setting told strict files lines before after

-- A run took these bytes from its source, in few reads and no more than a session may have, and
-- ended so.
pub record Serves (setting : Setting) (told : Option Files) (strict : Bool) (files : List Bytes)
    (status : Status) (source now : SourceShown) (before after : Around) : Type 0 where
  pub taken : Bytes
  pub lines : List Bytes
  pub rest : Bytes
  pub gives : Gives source taken now
  pub within : length taken ≤ setting.limits.session
  pub splits : SplitsLines taken lines rest
  pub ends : Ends status setting told strict files taken lines rest source now before after

-- what was written of the line that says how to call the program
abbrev pub WritesUsage : Status → SinkShown → SinkShown → Type 0
WritesUsage Usage before after = SendsAll before usage_line after
WritesUsage SinkFault before after = SendsPart before usage_line after
WritesUsage status before after = ⊥

-- The words are no call of the program. That was said, and nothing was read or fetched.
pub record Declines (words : List Bytes) (status : Status) (source now : SourceShown)
    (before after : Around) : Type 0 where
  pub refused : takes program words ≡ false
  pub unread : now ≡ source
  pub unfetched : after.library.counts ≡ before.library.counts
  pub written : WritesUsage status before.sink after.sink

-- The run did what the words ask for. They have no fault, or memory ran out before that was known.
pub record ServesWords (limits : Limits) (told : Option Files) (words : List Bytes)
    (status : Status) (source now : SourceShown) (before after : Around) : Type 0 where
  pub faultless : (status ≡ Memory → ⊥) → HasNoFault words
  pub serves : Serves (setting_of limits) told (asked_by words).strict (asked_by words).files
      status source now before after

-- The words were declined, or served.
abbrev pub DeclinesOrServes : Limits → Option Files → (words : List Bytes) → Status
    → (source now : SourceShown) → (before after : Around) → Type 0
DeclinesOrServes limits told words status source now before after =
    Declines words status source now before after
    ⊎ ServesWords limits told words status source now before after

-- the statuses of a run in which no device fails
abbrev pub IsFaultless : Status → Type 0
IsFaultless Ended = Unit {0}
IsFaultless Refused = Unit {0}
IsFaultless Usage = Unit {0}
IsFaultless SourceFault = ⊥
IsFaultless SinkFault = ⊥
IsFaultless Memory = Unit {0}
IsFaultless SessionLimit = Unit {0}

-- The source's count of faults is one more where the run ended by its fault, and the sink's where
-- it ended by the sink's; no other end moved a count, nor did the other device's fault.
abbrev pub CountsFaults : Status → (source source_now sink sink_now : ℕ) → Type 0
CountsFaults Ended source source_now sink sink_now = (source_now ≡ source) × (sink_now ≡ sink)
CountsFaults Refused source source_now sink sink_now = (source_now ≡ source) × (sink_now ≡ sink)
CountsFaults Usage source source_now sink sink_now = (source_now ≡ source) × (sink_now ≡ sink)
CountsFaults SourceFault source source_now sink sink_now =
    (source_now ≡ raised source) × (sink_now ≡ sink)
CountsFaults SinkFault source source_now sink sink_now =
    (source_now ≡ source) × (sink_now ≡ raised sink)
CountsFaults Memory source source_now sink sink_now = (source_now ≡ source) × (sink_now ≡ sink)
CountsFaults SessionLimit source source_now sink sink_now =
    (source_now ≡ source) × (sink_now ≡ sink)

-- Where the run ends by a device's fault, the device's count of faults is one more, and else as
-- before; and where by the source's, the source may fail.
pub record HasCauses (status : Status) (source source_now : SourceShown) (sink sink_now : SinkShown)
    : Type 0 where
  pub source_later : source.counts.faults ≤ source_now.counts.faults
  pub sink_later : sink.counts.faults ≤ sink_now.counts.faults
  pub counts : CountsFaults status source.counts.faults source_now.counts.faults
      sink.counts.faults sink_now.counts.faults
  pub source_sure : status ≡ SourceFault → IsTrue source.may_fail

-- the sink's count of faults is one more where the run stops by its fault, and as before where it
-- stops at a refusal
abbrev pub BlamesSink : Stop → (sink sink_now : ℕ) → Type 0
BlamesSink stop.Refused sink sink_now = sink_now ≡ sink
BlamesSink stop.SinkFault sink sink_now = sink_now ≡ raised sink

-- what a run may write up to a reply: of these words and whole lines, or of the last line too,
-- where the end of the input was met
abbrev pub MayWrite : Setting → Option Files → (strict : Bool)
    → (files : List Bytes) (taken : Bytes) (lines : List Bytes) (rest : Bytes) (now : Option Bytes)
    → Reply → Bytes → Owed → Type 0
MayWrite setting told strict files taken lines rest now reply output owed =
    IsOutputTo setting told strict (requests files lines) reply output owed
    ⊎ (MetEnd setting.limits taken now × IsOutputTo setting told strict
    (requests files (lines_at_end lines rest)) reply output owed)

-- What the run may write fits the room, whatever it takes of what the source has left, and where
-- the words are declined, what is said then. If the library can't fail, this is asked of the
-- outputs alone that report no failure.
pub record HasRoomForOutputs (limits : Limits) (told : Option Files) (words : List Bytes)
    (may_fail : Bool) (left : Option Bytes) (room : ℕ) : Type 0 where
  pub usage : takes program words ≡ false → length usage_line ≤ room
  pub outputs : (taken : Bytes) (now : Option Bytes) (lines : List Bytes) (rest : Bytes)
      (reply : Reply) (output : Bytes) (owed : Owed)
      → Takes left taken now → length taken ≤ limits.session → SplitsLines taken lines rest
      → MayWrite (setting_of limits) told (asked_by words).strict
      (asked_by words).files taken lines rest now reply output owed
      → (IsFalse may_fail → owed.failures ≡ 0) → length output ≤ room

-- ---- between the devices before a run and after it
-- what the devices of a run show at one moment
pub record Devices : Type 0 where
  pub source : SourceShown
  pub sink : SinkShown
  pub library : LibraryShown

abbrev pub devices : SourceShown → SinkShown → LibraryShown → Devices
devices source sink library = record { source = source; sink = sink; library = library }

-- those that a step has
abbrev pub but_source : Devices → Around
but_source d = around d.sink d.library

-- The run did what was asked for, over the files that the library tells.
abbrev pub ServesAsked : Setting → Asked → Status → (before after : Devices) → Type 0
ServesAsked setting asked status before after =
    Serves setting before.library.files asked.strict asked.files status before.source after.source
    (but_source before) (but_source after)

-- The words were declined, or served.
abbrev pub AnswersWords : Limits → (words : List Bytes) → Status → (before after : Devices)
    → Type 0
AnswersWords limits words status before after =
    DeclinesOrServes limits before.library.files words status before.source after.source
    (but_source before) (but_source after)

-- Words are served as they read, if `--strict` stands among them at most once, and none of the
-- others begins with `-`.
abbrev pub ServesAsSaid : Limits → (words : List Bytes) → Status → (before after : Devices)
    → Type 0
ServesAsSaid limits words status before after = IsPlain words
    → ServesAsked (setting_of limits)
    (record { strict = has_strict words; files = files_in words }) status before after

-- No device's fault ends a run whose source can't fail, and whose sink has room for all that may be
-- written.
abbrev pub IsFaultlessWithRoom : Limits → (words : List Bytes) → Status → Devices → Type 0
IsFaultlessWithRoom limits words status before = IsFalse before.source.may_fail
    → HasRoomForOutputs limits before.library.files words before.library.may_fail
    before.source.left before.sink.told.room
    → IsFaultless status

-- No device's fault ends a run in which neither the source nor the sink counted one.
abbrev pub IsFaultlessUnlessCounted : Status → (before after : Devices) → Type 0
IsFaultlessUnlessCounted status before after =
    (Rose before.source.counts.faults after.source.counts.faults → ⊥)
    → (Rose before.sink.counts.faults after.sink.counts.faults → ⊥)
    → IsFaultless status
