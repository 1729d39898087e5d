use Rattle.std.proofs.Common.{take}
use Rattle.si_sign.proofs.SoFar.{TakesSoFar, gather, in_literal}
use Rattle.si_sign.proofs.uses.Uses.take_literals.Given as goal

abbrev pub invariant-loop-i : goal.invariant-loop-i
invariant-loop-i l = TakesSoFar l.fn.self l.self (gather in_literal (take l.i l.literals))
