use Rattle.std.proofs.Common.{◌≡◌, ℕ, ◌+◌, length, take, slice_index_or}
use Rattle.si_form.specs.Ordering.{times_among}
use Rattle.si_form.proofs.order.raise_each.Given as goal

abbrev pub invariant-loop-number : goal.invariant-loop-number
invariant-loop-number l =
    (length l.counts.items ≡ length l.fn.counts.items)
    × ((j : ℕ) → slice_index_or l.counts.items j 0 ≡ slice_index_or l.fn.counts.items j 0 + times_among (take l.number-index l.used) j)
