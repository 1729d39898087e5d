use Rattle.std.proofs.Common.{◌≡◌, ◌++◌, ◌≤◌, vec_capacity}
use Rattle.si_descend.specs.Pending.{marks_of, with_marks}
use Rattle.si_descend.proofs.AttemptLaws.{IsUnderway}
use Rattle.si_descend.proofs.pending.push_tried.Given as goal

abbrev pub invariant-loop-place : goal.invariant-loop-place
invariant-loop-place l =
    IsUnderway l.search l.node l.attempts l.place (λ tried. l.pending.items ≡ l.fn.pending.items ++ with_marks (marks_of l.here) tried)
    × (vec_capacity l.fn.pending ≤ vec_capacity l.pending)
