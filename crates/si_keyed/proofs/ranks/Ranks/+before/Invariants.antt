use Rattle.si_keyed.proofs.ranks.Ranks.+before.Given as goal

abbrev pub decreases-before : goal.decreases-before
decreases-before l = goal.size-before l
