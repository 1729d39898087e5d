use Rattle.std.proofs.Common.{◌≡◌, ◌≢◌, true, false, refl, sym, ◌∙◌, arith}
use Rattle.si_defs.proofs.ListLaws.{all_got}
use Rattle.si_unify.specs.Solving.{IsPieceOf}
use Rattle.si_unify.proofs.Lists.{slot_bound}
use Rattle.si_form.proofs.PairLaws.{all_more, all_begins, all_ends, pair_at}
use Rattle.si_form.proofs.direct.stands_apart.Goals as goal

pub loop-n-init : goal.loop-n-init
loop-n-init c = all_begins (λ other. other.0 ≢ c.args.slot → IsPieceOf other.1.now c.args.value.now → ⊥) c.args.trail.now.pairs

pub loop-n-preserved-then-other-slot : goal.loop-n-preserved-then-other-slot
loop-n-preserved-then-other-slot c =
    all_more (λ other. other.0 ≢ c.args.slot → IsPieceOf other.1.now c.args.value.now → ⊥) c.args.trail.now.pairs c.loop-n.n
    (c.slot-other.result, c.slot-other.ensures.0) c.slot-other.ensures.1 (λ differs piece. differs c.if-other-slot.true) c.loop-n.invariant

pub unreachable-requires : goal.unreachable-requires
unreachable-requires c = slot_bound c.args.trail.now.pairs c.loop-n.n c.slot-other.result c.slot-other.ensures (sym c.in_default.ensures)

pub loop-n-preserved : goal.loop-n-preserved
loop-n-preserved c =
    all_more (λ other. other.0 ≢ c.args.slot → IsPieceOf other.1.now c.args.value.now → ⊥) c.args.trail.now.pairs c.loop-n.n
    (c.slot-other.result, c.in-Some.cells.now)
    (pair_at c.args.trail.now.pairs c.loop-n.n c.slot-other.result c.in-Some.cells.now c.mark-n-end.ensures.distinct c.slot-other.ensures (sym c.in-Some.ensures))
    (λ differs piece. let bad : true ≡ false = sym (c.has_piece.ensures.1 piece) ∙ c.if-has_piece.false in cc) c.loop-n.invariant

pub returns-then-has_piece : goal.returns-then-has_piece
returns-then-has_piece c = (
  λ e. let bad : false ≡ true = e in cc,
  λ all.
      absurd (
      all_got (λ other. other.0 ≢ c.args.slot → IsPieceOf other.1.now c.args.value.now → ⊥) c.args.trail.now.pairs c.loop-n.n (c.slot-other.result, c.in-Some.cells.now) all
      (pair_at c.args.trail.now.pairs c.loop-n.n c.slot-other.result c.in-Some.cells.now c.mark-n-end.ensures.distinct c.slot-other.ensures (sym c.in-Some.ensures))
      c.if-other-slot.false (c.has_piece.ensures.0 c.if-has_piece.true)
      ),
)

pub returns : goal.returns
returns c = (
  λ e. all_ends (λ other. other.0 ≢ c.args.slot → IsPieceOf other.1.now c.args.value.now → ⊥) c.args.trail.now.pairs c.loop-n.n
      (omega (arith, c.loop-n-test.false, c.mark-n-end.ensures.number)) c.loop-n.invariant,
  λ all. refl,
)
