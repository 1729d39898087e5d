use Rattle.std.proofs.Common.{length, ◌-◌}
use Rattle.si_lex.proofs.AnnotationLaws.{IsInNotes}
use Rattle.si_lex.proofs.annotations.skip_annotations.Given as goal

abbrev pub invariant-loop-place : goal.invariant-loop-place
invariant-loop-place l = IsInNotes l.bytes l.at l.first l.place l.pending

abbrev pub decreases-loop-place : goal.decreases-loop-place
decreases-loop-place l = length l.bytes - l.place
