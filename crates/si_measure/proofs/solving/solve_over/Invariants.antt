use Rattle.std.proofs.Common.{◌≡◌, ◌≤◌, []}
use Rattle.si_unify.specs.Solving.{slot_count}
use Rattle.si_measure.proofs.solving.solve_over.Given as goal

abbrev pub invariant-loop : goal.invariant-loop
invariant-loop l = (slot_count l.fn.slots ≤ l.trail.slots) × (l.trail.pairs ≡ [])
