use Rattle.si_keyed.proofs.ranks.Ranks.+find.Given as goal

abbrev pub decreases-find : goal.decreases-find
decreases-find l = goal.size-find l
