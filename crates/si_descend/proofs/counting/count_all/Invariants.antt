use Rattle.std.proofs.Common.{◌≡◌, ◌-◌, List, [], length}
use Rattle.si_legal.specs.declared.Posting.{Posting}
use Rattle.si_legal.specs.Counts.{node_count}
use Rattle.si_descend.specs.Counting.{at_most}
use Rattle.si_descend.specs.Pending.{ArePending}
use Rattle.si_descend.proofs.Turns.{IsFinding}
use Rattle.si_descend.proofs.counting.count_all.Given as goal

abbrev pub invariant-loop-open : goal.invariant-loop-open
invariant-loop-open l =
    ((found : List Posting) × IsFinding l.search l.fn.node l.pending.items [] found l.passed × (l.answers ≡ at_most (length found)))
    × ArePending l.search l.fn.trail.pairs l.fn.taken.pairs l.trail l.taken l.pending.items

abbrev pub decreases-loop-open : goal.decreases-loop-open
decreases-loop-open l = node_count l.search.tree.now - l.passed
