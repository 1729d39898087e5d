use Rattle.std.proofs.Common.{◌≤◌, length}
use Rattle.si_unify.specs.Solving.{IsPieceOf}
use Rattle.si_form.proofs.direct.has_piece.Given as goal

abbrev pub invariant-loop-at : goal.invariant-loop-at
invariant-loop-at l = (p : IsPieceOf l.cells l.piece) → l.at ≤ length p.before
