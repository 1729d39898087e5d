use Rattle.std.proofs.Common.{◌≡◌, ◌-◌, length}
use Rattle.si_harvest.proofs.TakingTexts.{IsTaking}
use Rattle.si_harvest.proofs.texts.take_all.Given as goal

abbrev pub invariant-loop-end : goal.invariant-loop-end
invariant-loop-end g l =
    IsTaking (g.T.ClauseStore.rules l.fn.store) (g.T.ClauseStore.clauses l.fn.store) l.bytes l.at l.loaded (g.T.ClauseStore.clauses l.store)
    × (g.T.ClauseStore.rules l.store ≡ g.T.ClauseStore.rules l.fn.store)

abbrev pub decreases-loop-end : goal.decreases-loop-end
decreases-loop-end g l = length l.bytes - l.at
