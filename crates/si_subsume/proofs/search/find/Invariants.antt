use Rattle.std.proofs.Common.{length, ◌-◌}
use Rattle.si_subsume.proofs.Seeking.{IsSeekingBy}
use Rattle.si_subsume.proofs.search.find.Given as goal

abbrev pub invariant-loop-number : goal.invariant-loop-number
invariant-loop-number l = IsSeekingBy l.task.slots l.task.targets.now l.fn.trail l.trail l.literal l.from l.number

abbrev pub decreases-loop-number : goal.decreases-loop-number
decreases-loop-number l = length l.task.targets.now - l.number
