use Rattle.std.proofs.Common.{◌≡◌, length, map, take}
use Rattle.si_defs.specs.Entries.{state_entries}
use Rattle.si_term.specs.Meaning.{clause_of}
use Rattle.si_sign.proofs.plain.entries_of.Given as goal

abbrev pub invariant-loop-i : goal.invariant-loop-i
invariant-loop-i l = l.count ≡ length (state_entries (map clause_of (take l.i l.clauses)))
