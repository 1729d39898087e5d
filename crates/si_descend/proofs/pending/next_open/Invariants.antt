use Rattle.std.proofs.Common.{◌≡◌, ◌++◌, ℕ, List, length}
use Rattle.std.specs.Bool.{⊤}
use Rattle.std.specs.List.{AllByRecursion}
use Rattle.si_unify.specs.Solving.{Pairs}
use Rattle.si_descend.specs.declared.pending.Pending.{Pending}
use Rattle.si_descend.specs.Pending.{ArePending}
use Rattle.si_descend.specs.Searching.{IsClosedAt}
use Rattle.si_descend.proofs.EnoughLaws.{Keeps}
use Rattle.si_descend.proofs.pending.next_open.Given as goal

pub record Invariant (passing waiting kept : Type 0) : Type 0 where
  pub all_closed : passing
  pub still_pending : waiting
  pub keeps : kept

abbrev pub invariant-loop-next : goal.invariant-loop-next
invariant-loop-next l =
    Invariant
    ((closed : List Pending) × (l.fn.pending.items ≡ l.pending.items ++ closed) × AllByRecursion (λ p. IsClosedAt l.search p.node) closed)
    ((base : Pairs) (first : List (ℕ × ⊤)) → ArePending l.search base first l.fn.trail l.fn.taken l.fn.pending.items → ArePending l.search base first l.trail l.taken l.pending.items)
    (Keeps l.search l.fn.trail l.trail l.fn.taken l.taken l.fn.scratch l.scratch l.fn.pending l.pending)

abbrev pub decreases-loop-next : goal.decreases-loop-next
decreases-loop-next l = length l.pending.items
