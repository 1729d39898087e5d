-- The bytes from the place at the start up to the one that was come to were taken.
use Rattle.std.proofs.Common.{◌≡◌, ◌-◌, ◌≤◌, length, take, drop}
use Rattle.si_io.specs.Sends.{SendsAll}
use Rattle.si_io.proofs.buffered.hand_on.Given as goal

abbrev pub invariant-loop-from : goal.invariant-loop-from
invariant-loop-from g l = record {
  on : l.fn.from ≤ l.from;
  within : l.from ≤ length l.bytes;
  sent : SendsAll (g.S.Borrowed.shown l.fn.sink) (take (l.from - l.fn.from) (drop l.fn.from l.bytes)) (g.S.Borrowed.shown l.sink);
  same : g.S.Borrowed.name l.sink ≡ g.S.Borrowed.name l.fn.sink;
}

abbrev pub decreases-loop-from : goal.decreases-loop-from
decreases-loop-from g l = length l.bytes - l.from
