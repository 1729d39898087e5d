use Rattle.std.proofs.Common.{◌≡◌, None, Some, sym, ◌∙◌, ap, arith}
use Rattle.std.proofs.lemmas.Option.{same_Some}
use Rattle.si_unify.proofs.Lists.{slot_bound}
use Rattle.si_form.proofs.DirectLaws.{some_cells}
use Rattle.si_form.proofs.PairLaws.{pair_at}
use Rattle.si_form.proofs.RenamingLaws.{first_begins, first_stays, first_moves, first_ends}
use Rattle.si_form.proofs.direct.first_of.Goals as goal

pub loop-n-init : goal.loop-n-init
loop-n-init c = first_begins c.args.slots.now c.args.trail.now.pairs c.args.slot

pub loop-n-preserved-then-other-first : goal.loop-n-preserved-then-other-first
loop-n-preserved-then-other-first c =
    first_stays c.args.slots.now c.args.trail.now.pairs c.args.slot c.loop-n.n c.loop-n.first c.slot-other.result c.slot-other.ensures.0 c.slot-other.ensures.1 c.loop-n.invariant (λ e. c.if-other-first.true)

pub unreachable-requires : goal.unreachable-requires
unreachable-requires c = slot_bound c.args.trail.now.pairs c.loop-n.n c.slot-other.result c.slot-other.ensures (sym c.in_default.ensures)

pub bounds-value-0 : goal.bounds-value-0
bounds-value-0 c = some_cells c.args.slots.now c.args.trail.now.pairs c.requires c.slot-other.result c.in-Some.value.now (sym c.in-Some.ensures)

pub loop-n-preserved-in_default-slot_of : goal.loop-n-preserved-in_default-slot_of
loop-n-preserved-in_default-slot_of c =
    first_stays c.args.slots.now c.args.trail.now.pairs c.args.slot c.loop-n.n c.loop-n.first c.slot-other.result c.in-Some.value.now
    (pair_at c.args.trail.now.pairs c.loop-n.n c.slot-other.result c.in-Some.value.now c.mark-n-end.ensures.distinct c.slot-other.ensures (sym c.in-Some.ensures))
    c.loop-n.invariant
    (λ e. let bad : None ≡ Some c.args.slot = sym c.in_default-slot_of.is ∙ c.slot_of.ensures ∙ e in cc)

pub loop-n-preserved-then-next-slot : goal.loop-n-preserved-then-next-slot
loop-n-preserved-then-next-slot c =
    first_stays c.args.slots.now c.args.trail.now.pairs c.args.slot c.loop-n.n c.loop-n.first c.slot-other.result c.in-Some.value.now
    (pair_at c.args.trail.now.pairs c.loop-n.n c.slot-other.result c.in-Some.value.now c.mark-n-end.ensures.distinct c.slot-other.ensures (sym c.in-Some.ensures))
    c.loop-n.invariant
    (λ e. absurd (c.if-next-slot.true (same_Some c.in-Some-slot_of.next c.args.slot (sym c.in-Some-slot_of.is ∙ c.slot_of.ensures ∙ e))))

pub loop-n-preserved : goal.loop-n-preserved
loop-n-preserved c =
    first_moves c.args.slots.now c.args.trail.now.pairs c.args.slot c.loop-n.n c.loop-n.first c.slot-other.result c.in-Some.value.now
    (pair_at c.args.trail.now.pairs c.loop-n.n c.slot-other.result c.in-Some.value.now c.mark-n-end.ensures.distinct c.slot-other.ensures (sym c.in-Some.ensures))
    c.loop-n.invariant (sym c.in-Some.ensures)
    (sym c.slot_of.ensures ∙ c.in-Some-slot_of.is ∙ ap Some c.if-next-slot.false) c.if-other-first.false

pub returns : goal.returns
returns c = first_ends c.args.slots.now c.args.trail.now.pairs c.args.slot c.loop-n.n c.loop-n.first (omega (arith, c.loop-n-test.false, c.mark-n-end.ensures.number)) c.loop-n.invariant
