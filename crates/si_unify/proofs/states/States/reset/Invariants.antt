use Rattle.std.proofs.Common.{◌≡◌, length}
use Rattle.std.specs.Prelude.{min, vec_capacity}
use Rattle.si_unify.specs.States.{AreMet, HasRoomForSlots}
use Rattle.si_unify.proofs.states.States.reset.Given as goal

pub record Invariant (met_now room_now same_now : Type 0) : Type 0 where
  pub met : met_now
  pub room : room_now
  pub same : same_now

abbrev pub invariant-loop-slot : goal.invariant-loop-slot
invariant-loop-slot l =
    Invariant (AreMet l.self-inside.states.items l.self-inside.met.items)
    (HasRoomForSlots l.self-inside.states.items l.self-inside.met.items (vec_capacity l.self-inside.met))
    (min (vec_capacity l.self-inside.states) (vec_capacity l.self-inside.met) ≡ l.fn.self.room)

abbrev pub decreases-loop-slot : goal.decreases-loop-slot
decreases-loop-slot l = length l.self-inside.met.items
