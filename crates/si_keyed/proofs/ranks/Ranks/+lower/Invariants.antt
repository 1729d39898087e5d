use Rattle.si_keyed.proofs.ranks.Ranks.+lower.Given as goal

abbrev pub decreases-lower : goal.decreases-lower
decreases-lower l = goal.size-lower l
