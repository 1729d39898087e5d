use Rattle.std.proofs.Common.{◌-◌, ◌≤◌, length, take}
use Rattle.si_io.specs.Sends.{SendsAll}
use Rattle.si_io.proofs.sink.write_all.Given as goal

abbrev pub invariant-loop-taken : goal.invariant-loop-taken
invariant-loop-taken g l = record {
  within : l.taken ≤ length l.bytes;
  sent : SendsAll (g.K.Sink.shown l.fn.sink) (take l.taken l.bytes) (g.K.Sink.shown l.sink);
}

abbrev pub decreases-loop-taken : goal.decreases-loop-taken
decreases-loop-taken g l = length l.bytes - l.taken
