use Rattle.std.proofs.Common.{◌≡◌, true, false, refl, sym, ◌∙◌, arith}
use Rattle.si_defs.proofs.ListLaws.{all_got}
use Rattle.si_form.specs.Direct.{IsDirect}
use Rattle.si_unify.proofs.Lists.{slot_bound}
use Rattle.si_form.proofs.DirectLaws.{some_cells}
use Rattle.si_form.proofs.PairLaws.{all_more, all_begins, all_ends, pair_at}
use Rattle.si_form.proofs.direct.are_direct.Goals as goal

pub loop-n-init : goal.loop-n-init
loop-n-init c = all_begins (IsDirect c.args.slots.now c.args.trail.now.pairs) c.args.trail.now.pairs

pub unreachable-requires : goal.unreachable-requires
unreachable-requires c = slot_bound c.args.trail.now.pairs c.loop-n.n c.slot-slot.result c.slot-slot.ensures (sym c.in_default.ensures)

pub is_direct-requires : goal.is_direct-requires
is_direct-requires c = some_cells c.args.slots.now c.args.trail.now.pairs c.requires c.slot-slot.result c.in-Some.value.now (sym c.in-Some.ensures)

pub loop-n-preserved : goal.loop-n-preserved
loop-n-preserved c =
    all_more (IsDirect c.args.slots.now c.args.trail.now.pairs) c.args.trail.now.pairs c.loop-n.n (c.slot-slot.result, c.in-Some.value.now)
    (pair_at c.args.trail.now.pairs c.loop-n.n c.slot-slot.result c.in-Some.value.now c.mark-n-end.ensures.distinct c.slot-slot.ensures (sym c.in-Some.ensures))
    (c.is_direct.ensures.0 c.if-not-is_direct.false) c.loop-n.invariant

pub returns-then-not-is_direct : goal.returns-then-not-is_direct
returns-then-not-is_direct c = (
  λ e. let bad : false ≡ true = e in cc,
  λ all.
      sym c.if-not-is_direct.true
      ∙ c.is_direct.ensures.1
      (
      all_got (IsDirect c.args.slots.now c.args.trail.now.pairs) c.args.trail.now.pairs c.loop-n.n (c.slot-slot.result, c.in-Some.value.now) all
      (pair_at c.args.trail.now.pairs c.loop-n.n c.slot-slot.result c.in-Some.value.now c.mark-n-end.ensures.distinct c.slot-slot.ensures (sym c.in-Some.ensures))
      ),
)

pub returns : goal.returns
returns c = (
  λ e. all_ends (IsDirect c.args.slots.now c.args.trail.now.pairs) c.args.trail.now.pairs c.loop-n.n
      (omega (arith, c.loop-n-test.false, c.mark-n-end.ensures.number)) c.loop-n.invariant,
  λ all. refl,
)
