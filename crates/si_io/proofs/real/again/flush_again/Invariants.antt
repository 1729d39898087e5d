use Rattle.std.specs.Io.KnownBytes.{Keeps}
use Rattle.si_io.specs.Tries.{Interrupts}
use Rattle.si_io.proofs.real.again.flush_again.Given as goal

abbrev pub invariant-loop-i : goal.invariant-loop-i
invariant-loop-i g l = record {
  bytes : Keeps (g.W.Output.text l.fn.output) (g.W.Output.text l.output);
  tries : Interrupts g.W.Output.flushes l.i l.fn.output l.output;
}
