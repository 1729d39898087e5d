use Rattle.std.proofs.Common.{ℕ, ◌↔◌}
use Rattle.si_defs.specs.Substitutions.{IsAmong}
use Rattle.si_form.specs.Ordering.{uses_at, IsListedFree}
use Rattle.si_form.proofs.order.find_free.Given as goal

abbrev pub invariant-loop-k : goal.invariant-loop-k
invariant-loop-k l = (j : ℕ) → IsAmong l.free.keys j ↔ IsListedFree (uses_at l.lists) l.k l.counts j
