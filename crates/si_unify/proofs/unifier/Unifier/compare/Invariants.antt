use Rattle.std.proofs.Common.{◌-◌, length}
use Rattle.si_unify.specs.Spots.{spots_of}
use Rattle.si_unify.specs.Unifying.{KeepsQuestion}
use Rattle.si_unify.proofs.Comparing.{IsComparing}
use Rattle.si_unify.proofs.unifier.Unifier.compare.Given as goal

pub record Invariant (comparing going : Type 0) : Type 0 where
  pub comparing_on : comparing
  pub going_on : going

abbrev pub invariant-loop-i : goal.invariant-loop-i
invariant-loop-i l =
    Invariant
    (IsComparing l.fn.self.question l.fn.self.trail.now.pairs l.self.trail.now.pairs l.fn.self.keys.now.keys l.self.keys.now.keys (spots_of l.left l.right) l.left.cells.now l.right.cells.now l.i l.j)
    (KeepsQuestion l.fn.self l.self)

abbrev pub decreases-loop-i : goal.decreases-loop-i
decreases-loop-i l = length l.left.cells.now - l.i
