use Rattle.std.proofs.Common.{length, ◌-◌}
use Rattle.si_lex.proofs.BriefLaws.{IsKept}
use Rattle.si_lex.proofs.lexing.lex_up_to.Given as goal

abbrev pub invariant-loop-place : goal.invariant-loop-place
invariant-loop-place l = IsKept l.item l.tried l.bytes l.at l.start l.tokens.items l.depth l.place

abbrev pub decreases-loop-place : goal.decreases-loop-place
decreases-loop-place l = length l.bytes - l.place
