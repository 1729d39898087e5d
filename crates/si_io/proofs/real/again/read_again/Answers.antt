-- Each call that comes again was interrupted by a signal, and took nothing.
use Rattle.std.proofs.Common.{sym, arith}
use Rattle.std.proofs.KnownBytes.{Keeps-refl}
use Rattle.si_io.specs.Tries.{none, another}
use Rattle.si_io.proofs.Tries.{read_interrupted, Tries_heard, Tries_last}
use Rattle.si_io.proofs.real.again.read_again.Goals as goal

pub loop-i-init : goal.loop-i-init
loop-i-init g c = record { bytes = Keeps-refl _; tries = none _ }

pub returns-then-not-is_interrupted-clause-tries :
    goal.returns-then-not-is_interrupted-clause-tries
returns-then-not-is_interrupted-clause-tries g c = Tries_heard _ _ _ _ _ _ c.loop-i.invariant.tries c.read_once-answer.ensures.once (sym (c.if-not-is_interrupted.ensures))

pub loop-i-preserved : goal.loop-i-preserved
loop-i-preserved g c =
    let signal = sym (c.if-not-is_interrupted.ensures) in
    record {
      bytes = read_interrupted _ _ _ _ _ signal c.loop-i.invariant.bytes c.read_once-answer.ensures.bytes;
      tries = another _ _ _ _ _ c.loop-i.invariant.tries c.read_once-answer.ensures.once signal;
    }

pub returns-clause-tries : goal.returns-clause-tries
returns-clause-tries g c = Tries_last _ _ _ _ _ _ c.loop-i.invariant.tries c.read_once.ensures.once (omega (arith, c.loop-i-test.false, c.loop-i.auto.i-end))
