use Rattle.std.proofs.Common.{◌≡◌, ◌++◌, map}
use Rattle.si_term.specs.Meaning.{literal_of}
use Rattle.si_term.proofs.Literals.{later}
use Rattle.si_term.proofs.copies.copy_literals.Given as goal

abbrev pub invariant-loop-i : goal.invariant-loop-i
invariant-loop-i l = map literal_of l.copies ++ later l.literals l.i ≡ map literal_of l.literals
