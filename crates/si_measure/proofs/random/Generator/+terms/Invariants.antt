use Rattle.si_measure.proofs.random.Generator.+terms.Given as goal

abbrev pub decreases-terms : goal.decreases-terms
decreases-terms l = l.size
