use Rattle.si_keyed.proofs.MarkLaws.{IsClosing}
use Rattle.si_keyed.proofs.keyed.close_marks.Given as goal

abbrev pub invariant-loop-place : goal.invariant-loop-place
invariant-loop-place g l = IsClosing l.slots l.fn.marks.items l.marks.items l.count l.place
