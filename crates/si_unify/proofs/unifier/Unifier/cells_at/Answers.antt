use Rattle.std.proofs.Common.{◌<◌, length, take, drop, sym, ap, ◌∙◌, subst, arith}
use Rattle.si_flat.specs.Cells.{IsWhole}
use Rattle.si_unify.proofs.Places.{inside}
use Rattle.si_unify.proofs.Pieces.{piece_ends}
use Rattle.si_unify.proofs.Binding.{text_whole, cut_subterm}
use Rattle.si_unify.proofs.unifier.Unifier.cells_at.Goals as goal

pub sub-requires-clause-whole : goal.sub-requires-clause-whole
sub-requires-clause-whole c = subst IsWhole (sym c.text.ensures) (text_whole _ _ _ c.requires.underway.legal c.requires.spot)

pub sub-requires-clause-inside : goal.sub-requires-clause-inside
sub-requires-clause-inside c = subst (λ l. c.args.spot.at < length l) (sym c.text.ensures) (inside _ _ _ c.requires.spot.1)

pub returns-clause-subterm : goal.returns-clause-subterm
returns-clause-subterm c =
    cut_subterm _ _ _ c.sub.result c.requires.spot
    (c.sub.ensures.place ∙ ap (λ l. take (length c.sub.result.now) (drop c.args.spot.at l)) c.text.ensures)
    c.sub.ensures.whole

pub returns-clause-small : goal.returns-clause-small
returns-clause-small c =
    let less : c.args.spot.at < length c.text.result.now = subst (λ l. c.args.spot.at < length l) (sym c.text.ensures) (inside _ _ _ c.requires.spot.1) in
    omega (arith, piece_ends c.text.result.now c.sub.result.now c.args.spot.at c.sub.ensures.place less, c.text.type_inv.0)
