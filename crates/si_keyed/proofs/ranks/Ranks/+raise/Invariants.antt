use Rattle.si_keyed.proofs.ranks.Ranks.+raise.Given as goal

abbrev pub decreases-raise : goal.decreases-raise
decreases-raise l = goal.size-raise l
