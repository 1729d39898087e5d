use Rattle.std.proofs.Common.{◌≡◌, ◌+◌, true, false, refl, sym, arith}
use Rattle.si_unify.proofs.Lists.{slot_bound}
use Rattle.si_form.proofs.PairLaws.{pair_at}
use Rattle.si_form.proofs.SmallLaws.{count_none, count_more, count_within, count_all}
use Rattle.si_form.proofs.direct.is_small.Goals as goal

pub loop-n-init : goal.loop-n-init
loop-n-init c = omega (arith, count_none c.args.trail.now.pairs)

pub unreachable-requires : goal.unreachable-requires
unreachable-requires c = slot_bound c.args.trail.now.pairs c.loop-n.n c.slot.result c.slot.ensures (sym c.in_default.ensures)

pub returns-in_default-checked_sub : goal.returns-in_default-checked_sub
returns-in_default-checked_sub c =
    let pairs = c.args.trail.now.pairs in
    let there = pair_at pairs c.loop-n.n c.slot.result c.in-Some.value.now c.requires.distinct c.slot.ensures (sym c.in-Some.ensures) in (
      λ e. let bad : false ≡ true = e in cc,
      λ small.
          absurd (omega (arith, c.loop-n.invariant, count_more pairs c.loop-n.n c.slot.result c.in-Some.value.now there, count_within pairs (c.loop-n.n + 1), small.short, c.in_default-checked_sub.ensures)),
    )

pub loop-n-preserved : goal.loop-n-preserved
loop-n-preserved c =
    let pairs = c.args.trail.now.pairs in
    let there = pair_at pairs c.loop-n.n c.slot.result c.in-Some.value.now c.requires.distinct c.slot.ensures (sym c.in-Some.ensures) in
    omega (arith, c.loop-n.invariant, count_more pairs c.loop-n.n c.slot.result c.in-Some.value.now there, c.in-Some-checked_sub.ensures.0, c.in-Some-checked_sub.ensures.1)

pub returns : goal.returns
returns c = (
  λ e. record {
    few = omega (arith, c.requires.number, c.if-count-gt-MOST_BINDINGS.false);
    short = omega (arith, c.loop-n.invariant, count_all c.args.trail.now.pairs c.loop-n.n (omega (arith, c.requires.number, c.loop-n-test.false)));
  },
  λ small. refl,
)
