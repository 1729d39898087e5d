use Rattle.si_descend.proofs.LongestLaws.{IsMeasuring}
use Rattle.si_descend.proofs.rights.longest_right.Given as goal

abbrev pub invariant-loop : goal.invariant-loop
invariant-loop l = IsMeasuring l.tree l.left.items l.counter l.longest
