use Rattle.std.proofs.Common.{◌≡◌, map, take}
use Rattle.si_defs.specs.Entries.{state_symbols}
use Rattle.si_term.specs.Meaning.{clause_of}
use Rattle.si_sign.specs.Plain.{lent_symbols}
use Rattle.si_sign.proofs.plain.kept_symbols.Given as goal

abbrev pub invariant-loop-i : goal.invariant-loop-i
invariant-loop-i l = lent_symbols l.all.items ≡ state_symbols (map clause_of (take l.i l.clauses))
