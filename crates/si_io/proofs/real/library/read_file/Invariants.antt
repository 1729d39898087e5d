use Rattle.std.proofs.Common.{◌-◌, ◌≤◌, take, vec_len}
use Rattle.std.specs.Io.KnownBytes.{Consumes}
use Rattle.si_io.proofs.real.library.read_file.Given as goal

abbrev pub invariant-loop-filled : goal.invariant-loop-filled
invariant-loop-filled g l = record {
  within : l.filled ≤ vec_len l.into;
  room : vec_len l.into ≤ l.most;
  taken : Consumes (g.F.Input.rest l.fn.file) (g.F.Input.rest l.file) (take l.filled l.into.items);
}

abbrev pub decreases-loop-filled : goal.decreases-loop-filled
decreases-loop-filled g l = l.most - l.filled
