use Rattle.std.proofs.Common.{◌≡◌}
use Rattle.si_harvest.proofs.Taking.{IsShortened}
use Rattle.si_harvest.proofs.store.roll_back.Given as goal

abbrev pub invariant-loop : goal.invariant-loop
invariant-loop g l =
    IsShortened (g.T.ClauseStore.clauses l.initial.store) l.counter (g.T.ClauseStore.clauses l.store)
    × (g.T.ClauseStore.rules l.store ≡ g.T.ClauseStore.rules l.initial.store)
