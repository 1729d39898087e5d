use Rattle.si_subsume.proofs.HeadLaws.{IsIndexing}
use Rattle.si_subsume.proofs.heads.Heads.of.Given as goal

abbrev pub invariant-loop-behind : goal.invariant-loop-behind
invariant-loop-behind l = IsIndexing l.first.entries l.next.items l.targets l.behind
