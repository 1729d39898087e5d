use Rattle.std.proofs.Common.{◌≡◌, length}
use Rattle.si_subsume.proofs.parts.Joining.labels.Given as goal

abbrev pub invariant-loop-literal : goal.invariant-loop-literal
invariant-loop-literal l = length l.labels.items ≡ l.literal
