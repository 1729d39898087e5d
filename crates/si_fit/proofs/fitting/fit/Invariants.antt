use Rattle.std.proofs.Common.{◌≡◌}
use Rattle.si_unify.specs.Rooms.{IsNoLessRoom}
use Rattle.si_fit.proofs.FitTurns.{FitsSoFar}
use Rattle.si_fit.proofs.fitting.fit.Given as goal

pub record Invariant (fits slots room : Type 0) : Type 0 where
  pub fits_so_far : fits
  pub same_slots : slots
  pub same_room : room

abbrev pub invariant-loop-pair : goal.invariant-loop-pair
invariant-loop-pair l =
    Invariant (FitsSoFar l.slots l.fn.trail.pairs l.bindings l.fn.trail.slots l.trail.pairs l.pair-iterator)
    (l.trail.slots ≡ l.fn.trail.slots) (IsNoLessRoom l.fn.scratch l.scratch)
