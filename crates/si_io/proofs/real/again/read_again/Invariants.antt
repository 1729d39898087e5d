use Rattle.std.specs.Io.KnownBytes.{Keeps}
use Rattle.si_io.specs.Tries.{Interrupts, ReadsOnce}
use Rattle.si_io.proofs.real.again.read_again.Given as goal

abbrev pub invariant-loop-i : goal.invariant-loop-i
invariant-loop-i g l = record {
  bytes : Keeps (g.R.Input.rest l.fn.input) (g.R.Input.rest l.input);
  tries : Interrupts (ReadsOnce g.R.Input.reads) l.i (l.fn.input, l.fn.into) (l.input, l.into);
}
