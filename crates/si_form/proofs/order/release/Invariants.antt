use Rattle.std.proofs.Common.{ℕ, List, length, drop}
use Rattle.si_form.specs.Ordering.{uses_at, IsPartlyOrdered}
use Rattle.si_form.proofs.order.release.Given as goal

abbrev pub invariant-loop-number : goal.invariant-loop-number
invariant-loop-number l =
    (order : List ℕ)
    → IsPartlyOrdered (uses_at l.lists) (length l.lists) l.fn.counts.items l.fn.free.keys order l.used
    → IsPartlyOrdered (uses_at l.lists) (length l.lists) l.counts.items l.free.keys order (drop l.number-index l.used)
