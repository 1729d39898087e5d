-- The exit codes.
use Rattle.std.specs.Prelude.{ℕ}
use Rattle.si_serve.specs.declared.status.Status.{Status}
use Rattle.si_serve.specs.declared.status.Stop.{Stop}
use Rattle.si_serve.specs.declared.status.Stop.TheVariants as stop
use Rattle.si_serve.specs.declared.status.Status.TheVariants.{Ended, Refused, Usage, SourceFault, SinkFault, Memory, SessionLimit}

abbrev pub code_of : Status → ℕ
code_of Ended = 0
code_of Refused = 1
code_of Usage = 2
code_of SourceFault = 3
code_of SinkFault = 4
code_of Memory = 5
code_of SessionLimit = 6

-- how a run ends that stops at a reply
abbrev pub status_of : Stop → Status
status_of stop.Refused = Refused
status_of stop.SinkFault = SinkFault
