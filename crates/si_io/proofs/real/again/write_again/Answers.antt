-- Each call that comes again was interrupted by a signal, and took nothing.
use Rattle.std.proofs.Common.{sym}
use Rattle.std.proofs.KnownBytes.{Keeps-refl}
use Rattle.si_io.specs.Tries.{none, another}
use Rattle.si_io.proofs.Tries.{write_interrupted}
use Rattle.si_io.proofs.real.again.write_again.Goals as goal

pub loop-i-init : goal.loop-i-init
loop-i-init g c = record { bytes = Keeps-refl _; tries = none _ }

pub loop-i-preserved : goal.loop-i-preserved
loop-i-preserved g c =
    let signal = sym (c.if-not-is_interrupted.ensures) in
    record {
      bytes = write_interrupted _ _ _ _ _ signal c.loop-i.invariant.bytes c.write_once-answer.ensures.bytes;
      tries = another _ _ _ _ _ c.loop-i.invariant.tries c.write_once-answer.ensures.once signal;
    }
