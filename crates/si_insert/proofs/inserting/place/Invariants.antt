use Rattle.std.proofs.Common.{◌≡◌}
use Rattle.si_flat.specs.Cells.{Term, StandsFor}
use Rattle.si_legal.specs.Legal.{IsLegal}
use Rattle.si_insert.proofs.WalkLaws.{Walk, left_of}
use Rattle.si_insert.proofs.inserting.place.Given as goal

abbrev pub invariant-loop-split : goal.invariant-loop-split
invariant-loop-split l =
    (l.tree ≡ l.fn.tree) × IsLegal l.tree
    × ((t : Term) → StandsFor l.cells t → Walk l.tree l.cells t l.node l.openings)

abbrev pub decreases-loop-split : goal.decreases-loop-split
decreases-loop-split l = left_of l.cells l.tree l.node
