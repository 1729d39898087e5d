use Rattle.std.proofs.Common.{length}
use Rattle.si_flat.specs.Cells.{Term, StandsFor}
use Rattle.si_legal.specs.Pieces.{piece}
use Rattle.si_mscg.specs.Walking.{state_of, with_piece}
use Rattle.si_mscg.proofs.WalkLaws.{Left}
use Rattle.si_mscg.proofs.walk.Walk.share.Given as goal

abbrev pub invariant-loop-cell : goal.invariant-loop-cell
invariant-loop-cell l =
    (t u : Term) → StandsFor l.fn.node t → StandsFor l.fn.new u → Left l.node l.new (state_of l.self) (with_piece (state_of l.fn.self) (piece l.fn.self.next t u))

abbrev pub decreases-loop-cell : goal.decreases-loop-cell
decreases-loop-cell l = length l.node
