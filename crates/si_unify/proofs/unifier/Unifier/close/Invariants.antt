use Rattle.std.proofs.Common.{◌-◌, ◌^◌}
use Rattle.si_unify.specs.Unifying.{KeepsQuestion}
use Rattle.si_unify.proofs.Closing.{IsClosing}
use Rattle.si_unify.proofs.unifier.Unifier.close.Given as goal

pub record Invariant (closing going : Type 0) : Type 0 where
  pub closing_on : closing
  pub going_on : going

abbrev pub invariant-loop-next : goal.invariant-loop-next
invariant-loop-next l =
    Invariant
    (IsClosing l.fn.self.question l.fn.self.trail.now.pairs l.self.trail.now.pairs l.fn.self.keys.now.keys l.self.keys.now.keys l.next)
    (KeepsQuestion l.fn.self l.self)

abbrev pub decreases-loop-next : goal.decreases-loop-next
decreases-loop-next l = 2 ^ 63 - l.next
