use Rattle.std.proofs.Common.{◌-◌, ◌≤◌, vec_capacity}
use Rattle.si_legal.specs.Counts.{node_count}
use Rattle.si_descend.specs.Pending.{ArePending}
use Rattle.si_descend.proofs.EnoughLaws.{Keeps}
use Rattle.si_descend.proofs.Turns.{IsFinding}
use Rattle.si_descend.proofs.search.visit_all.Given as goal

pub record Invariant (finding waiting kept wider : Type 0) : Type 0 where
  pub found_so_far : finding
  pub still_pending : waiting
  pub keeps : kept
  pub no_less_place : wider

abbrev pub invariant-loop-open : goal.invariant-loop-open
invariant-loop-open l =
    Invariant
    (IsFinding l.search l.fn.node l.pending.items l.fn.out.items l.out.items l.passed)
    (ArePending l.search l.fn.trail.pairs l.fn.taken.pairs l.trail l.taken l.pending.items)
    (Keeps l.search l.fn.trail l.trail l.fn.taken l.taken l.fn.scratch l.scratch l.fn.pending l.pending)
    (vec_capacity l.fn.out ≤ vec_capacity l.out)

abbrev pub decreases-loop-open : goal.decreases-loop-open
decreases-loop-open l = node_count l.search.tree.now - l.passed
