use Rattle.std.specs.Io.KnownBytes.{Keeps}
use Rattle.si_io.specs.Tries.{Interrupts}
use Rattle.si_io.proofs.real.again.write_again.Given as goal

abbrev pub invariant-loop-i : goal.invariant-loop-i
invariant-loop-i g l = record {
  bytes : Keeps (g.W.Output.text l.fn.output) (g.W.Output.text l.output);
  tries : Interrupts (λ device. g.W.Output.writes device l.bytes) l.i l.fn.output l.output;
}
