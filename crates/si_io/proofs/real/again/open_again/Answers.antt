-- Each call that comes again was interrupted by a signal.
use Rattle.std.proofs.Common.{sym}
use Rattle.si_io.specs.Tries.{none, another}
use Rattle.si_io.proofs.real.again.open_again.Goals as goal

pub loop-i-init : goal.loop-i-init
loop-i-init g c = none _

pub loop-i-preserved : goal.loop-i-preserved
loop-i-preserved g c = another _ _ _ _ _ c.loop-i.invariant c.open-answer.ensures (sym (c.if-not-is_interrupted.ensures))
