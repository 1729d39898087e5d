use Rattle.si_io.specs.Tries.{Interrupts}
use Rattle.si_io.proofs.real.again.open_again.Given as goal

abbrev pub invariant-loop-i : goal.invariant-loop-i
invariant-loop-i g l = Interrupts (λ device. g.D.Disk.opens device l.path) l.i l.fn.disk l.disk
