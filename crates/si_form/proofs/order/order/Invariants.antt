use Rattle.std.proofs.Common.{[], ◌-◌, length}
use Rattle.si_form.specs.Ordering.{uses_at, IsPartlyOrdered}
use Rattle.si_form.proofs.order.order.Given as goal

abbrev pub invariant-loop-next : goal.invariant-loop-next
invariant-loop-next l = IsPartlyOrdered (uses_at l.lists) (length l.lists) l.counts.items l.free.keys l.order.items []

abbrev pub decreases-loop-next : goal.decreases-loop-next
decreases-loop-next l = length l.lists - length l.order.items
