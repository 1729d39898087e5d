use Rattle.si_subsume.proofs.parts.Joining.leader.Given as goal

abbrev pub decreases-loop-next : goal.decreases-loop-next
decreases-loop-next l = l.at
