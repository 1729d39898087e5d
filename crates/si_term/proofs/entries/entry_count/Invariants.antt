use Rattle.std.proofs.Common.{◌≡◌, ◌+◌, length, map}
use Rattle.si_term.specs.Meaning.{literal_of}
use Rattle.si_term.specs.Walks.{entries_alone}
use Rattle.si_term.proofs.Literals.{later}
use Rattle.si_term.proofs.entries.entry_count.Given as goal

abbrev pub invariant-loop-i : goal.invariant-loop-i
invariant-loop-i l = l.count + length (entries_alone (later l.literals l.i)) ≡ length (entries_alone (map literal_of l.literals))
