use Rattle.std.proofs.Common.{length}
use Rattle.si_subsume.proofs.Turns.{turns_left}
use Rattle.si_subsume.proofs.Choices.{IsChoosing}
use Rattle.si_subsume.proofs.search.search.Given as goal

abbrev pub invariant-loop-scratch : goal.invariant-loop-scratch
invariant-loop-scratch l = IsChoosing l.task.slots l.task.targets.now l.task.literals.now l.choices.items l.trail l.from

abbrev pub decreases-loop-scratch : goal.decreases-loop-scratch
decreases-loop-scratch l = turns_left (length l.task.targets.now) l.choices.items l.from (length l.task.literals.now)
