use Rattle.std.proofs.Common.{◌≡◌, ◌++◌, ◌+◌, ◌-◌, ◌≤◌, length, take, vec_capacity}
use Rattle.std.specs.Prelude.{vec_len}
use Rattle.si_descend.specs.Pending.{marks_of, with_marks}
use Rattle.si_descend.proofs.pending.push_all.Given as goal

abbrev pub invariant-loop-child : goal.invariant-loop-child
invariant-loop-child l =
    (l.pending.items ≡ l.fn.pending.items ++ with_marks (marks_of l.here) (take l.child-index l.children))
    × (vec_capacity l.fn.pending ≤ vec_capacity l.pending)
    × (vec_len l.pending + (length l.children - l.child-index) ≤ vec_capacity l.pending)
