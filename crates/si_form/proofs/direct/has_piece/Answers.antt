use Rattle.std.proofs.Common.{◌≡◌, true, false, refl, sym, ◌∙◌, arith}
use Rattle.si_form.proofs.PairLaws.{piece_length, piece_here, piece_later}
use Rattle.si_form.proofs.direct.has_piece.Goals as goal

pub returns-then-cells-piece : goal.returns-then-cells-piece
returns-then-cells-piece c = (
  λ e. let bad : false ≡ true = e in cc,
  λ p. absurd (omega (arith, piece_length c.args.cells.now c.args.piece.now p, c.if-cells-piece.true)),
)

pub loop-at-init : goal.loop-at-init
loop-at-init c p = omega arith

pub loop-at-preserved : goal.loop-at-preserved
loop-at-preserved c =
    piece_later c.args.cells.now c.args.piece.now c.loop-at.at
    (λ same. let bad = sym (c.are_same.ensures.1 same) ∙ c.if-are_same.false in cc)
    c.loop-at.invariant

pub returns-then-are_same : goal.returns-then-are_same
returns-then-are_same c = (
  λ e. piece_here c.args.cells.now c.args.piece.now c.loop-at.at (c.are_same.ensures.0 c.if-are_same.true),
  λ p. refl,
)

pub returns : goal.returns
returns c = (
  λ e. let bad : false ≡ true = e in cc,
  λ p. absurd (omega (arith, piece_length c.args.cells.now c.args.piece.now p, c.loop-at.invariant p, c.loop-at-test.false, c.if-cells-piece.false)),
)
