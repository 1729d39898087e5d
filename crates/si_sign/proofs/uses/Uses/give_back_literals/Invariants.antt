use Rattle.std.proofs.Common.{take}
use Rattle.si_sign.proofs.SoFar.{GivesSoFar, gather, in_literal}
use Rattle.si_sign.proofs.uses.Uses.give_back_literals.Given as goal

abbrev pub invariant-loop-i : goal.invariant-loop-i
invariant-loop-i l = GivesSoFar l.fn.self l.self (gather in_literal (take l.i l.literals))
