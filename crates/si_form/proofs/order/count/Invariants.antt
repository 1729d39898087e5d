use Rattle.std.proofs.Common.{◌≡◌, ℕ, ◌≤◌, ◌*◌, ◌^◌, length, slice_index_or}
use Rattle.si_form.specs.Ordering.{uses_at, times_used, listed_below}
use Rattle.si_form.proofs.order.count.Given as goal

abbrev pub invariant-loop-k : goal.invariant-loop-k
invariant-loop-k l =
    (length l.counts.items ≡ length l.lists)
    × ((j : ℕ) → slice_index_or l.counts.items j 0 ≡ times_used (uses_at l.lists) (listed_below (uses_at l.lists) l.k) j)
    × ((j : ℕ) → slice_index_or l.counts.items j 0 ≤ l.k * 2 ^ 63)
