use Rattle.std.proofs.Common.{length, ◌-◌}
use Rattle.si_lex.proofs.BlankPlaces.{IsSkipped}
use Rattle.si_lex.proofs.blanks.skip_blanks.Given as goal

abbrev pub invariant-loop-place : goal.invariant-loop-place
invariant-loop-place l = IsSkipped l.bytes l.at l.place

abbrev pub decreases-loop-place : goal.decreases-loop-place
decreases-loop-place l = length l.bytes - l.place
