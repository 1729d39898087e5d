use Rattle.std.proofs.Common.{take}
use Rattle.si_state.specs.Acceptance.{Agrees}
use Rattle.si_term.specs.Terms.{symbol_of}
use Rattle.si_sign.specs.Plain.{lent_symbols}
use Rattle.si_sign.proofs.plain.find_clash.Given as goal

abbrev pub invariant-loop-i : goal.invariant-loop-i
invariant-loop-i l = Agrees (lent_symbols (take l.i l.others)) (symbol_of l.symbol)
