-- Each call that comes again was interrupted by a signal.
use Rattle.std.proofs.Common.{sym}
use Rattle.std.proofs.KnownBytes.{Keeps-refl, Keeps-trans}
use Rattle.si_io.specs.Tries.{none, another}
use Rattle.si_io.proofs.real.again.flush_again.Goals as goal

pub loop-i-init : goal.loop-i-init
loop-i-init g c = record { bytes = Keeps-refl _; tries = none _ }

pub loop-i-preserved : goal.loop-i-preserved
loop-i-preserved g c = record {
  bytes = Keeps-trans _ _ _ c.loop-i.invariant.bytes c.flush_once-answer.ensures.bytes;
  tries = another _ _ _ _ _ c.loop-i.invariant.tries c.flush_once-answer.ensures.once (sym (c.if-not-is_interrupted.ensures));
}
