use Rattle.si_forest.specs.Pairs.{two_of}
use Rattle.si_forest.proofs.LoseLaws.{AreGone}
use Rattle.si_forest.proofs.pair.Pair.remove_clause.Given as goal

abbrev pub invariant-loop-entry : goal.invariant-loop-entry
invariant-loop-entry l = AreGone l.key l.entry (two_of l.fn.self) (two_of l.self)
