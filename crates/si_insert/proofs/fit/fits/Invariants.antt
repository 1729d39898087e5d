use Rattle.std.proofs.Common.{◌≤◌, length}
use Rattle.si_defs.specs.Substitutions.{Grows}
use Rattle.si_flat.specs.Cells.{Term, StandsFor}
use Rattle.si_insert.specs.Opened.{term_at}
use Rattle.si_insert.proofs.FitLaws.{LeftToFit}
use Rattle.si_insert.proofs.fit.fits.Given as goal

abbrev pub invariant-loop-cell : goal.invariant-loop-cell
invariant-loop-cell l =
    Grows l.fn.openings l.openings × (l.place ≤ length l.cells)
    × ((t u : Term) → StandsFor l.fn.right t → StandsFor (term_at l.fn.cells l.fn.at) u → LeftToFit l.node l.cells l.place t u l.fn.openings l.openings)

abbrev pub decreases-loop-cell : goal.decreases-loop-cell
decreases-loop-cell l = length l.node
