use Rattle.std.proofs.Common.{◌≤◌, ◌+◌, length}
use Rattle.si_tree.proofs.postings.place_if_rising.Given as goal

abbrev pub invariant-loop-count : goal.invariant-loop-count
invariant-loop-count l = l.low + l.count ≤ length l.slots

abbrev pub decreases-loop-count : goal.decreases-loop-count
decreases-loop-count l = l.count
