use Rattle.std.proofs.Common.{take}
use Rattle.si_state.specs.Acceptance.{AllAgree}
use Rattle.si_sign.specs.Plain.{lent_symbols}
use Rattle.si_sign.proofs.plain.first_clash.Given as goal

abbrev pub invariant-loop-i : goal.invariant-loop-i
invariant-loop-i l = AllAgree (lent_symbols l.known) (lent_symbols (take l.i l.own))
