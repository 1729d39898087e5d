-- Memory that is lent to the solver.
use Rattle.std.specs.Prelude.{◌≡◌, [], vec_capacity}
use Rattle.si_unify.specs.declared.scratch.Buffers.{Buffers}
use Rattle.si_unify.specs.States.{AreNew}
use Rattle.si_unify.specs.Rooms.{SolverRoom, spot_pairs_room}

-- nothing is left in the buffers
pub record HoldNothing (buffers : Buffers) : Type 0 where
  pub keys : buffers.keys.keys ≡ []
  pub heights : buffers.heights.items ≡ []
  pub states : AreNew buffers.states.items
  pub visits : buffers.visits.items ≡ []

-- how much fits in them
abbrev pub buffers_room : Buffers → SolverRoom
buffers_room buffers = record {
  heights = buffers.heights.room;
  states = buffers.states.room;
  visits = vec_capacity buffers.visits;
  spot_pairs = spot_pairs_room buffers.keys;
}
