use Rattle.std.proofs.Common.{◌≡◌, ℕ, true, false, Option, None, Some, refl, sym, ◌∙◌, ap, arith}
use Rattle.std.specs.Option.{is_some}
use Rattle.si_defs.proofs.ListLaws.{all_got}
use Rattle.si_unify.proofs.Lists.{slot_bound}
use Rattle.si_form.specs.Direct.{head_slot}
use Rattle.si_form.proofs.DirectLaws.{some_cells}
use Rattle.si_form.proofs.PairLaws.{all_more, all_begins, all_ends, pair_at}
use Rattle.si_form.proofs.direct.are_applied.Goals as goal

no_slot : (o : Option ℕ) → false ≡ is_some o → o ≡ None
no_slot None e = refl
no_slot (Some n) e = cc

some_slot : (o : Option ℕ) → is_some o ≡ true → o ≡ None → ⊥
some_slot o e none = let bad : false ≡ true = sym (ap is_some none) ∙ e in cc

pub loop-n-init : goal.loop-n-init
loop-n-init c = all_begins (λ pair. head_slot c.args.slots.now pair.1.now ≡ None) c.args.trail.now.pairs

pub unreachable-requires : goal.unreachable-requires
unreachable-requires c = slot_bound c.args.trail.now.pairs c.loop-n.n c.slot.result c.slot.ensures (sym c.in_default.ensures)

pub bounds-value-0 : goal.bounds-value-0
bounds-value-0 c = some_cells c.args.slots.now c.args.trail.now.pairs c.requires c.slot.result c.in-Some.value.now (sym c.in-Some.ensures)

pub loop-n-preserved : goal.loop-n-preserved
loop-n-preserved c =
    all_more (λ pair. head_slot c.args.slots.now pair.1.now ≡ None) c.args.trail.now.pairs c.loop-n.n (c.slot.result, c.in-Some.value.now)
    (pair_at c.args.trail.now.pairs c.loop-n.n c.slot.result c.in-Some.value.now c.mark-n-end.ensures.distinct c.slot.ensures (sym c.in-Some.ensures))
    (sym c.slot_of.ensures ∙ no_slot c.slot_of.result c.if-is_some.ensures) c.loop-n.invariant

pub returns : goal.returns
returns c = (
  λ e. all_ends (λ pair. head_slot c.args.slots.now pair.1.now ≡ None) c.args.trail.now.pairs c.loop-n.n
      (omega (arith, c.loop-n-test.false, c.mark-n-end.ensures.number)) c.loop-n.invariant,
  λ applied. refl,
)

pub returns-then-is_some : goal.returns-then-is_some
returns-then-is_some c = (
  (λ e. let bad : false ≡ true = e in cc),
  (λ applied.
      absurd (some_slot c.slot_of.result (sym c.if-is_some.ensures) (c.slot_of.ensures ∙ all_got (λ pair. head_slot c.args.slots.now pair.1.now ≡ None) c.args.trail.now.pairs c.loop-n.n (c.slot.result, c.in-Some.value.now) applied
      (pair_at c.args.trail.now.pairs c.loop-n.n c.slot.result c.in-Some.value.now c.mark-n-end.ensures.distinct c.slot.ensures (sym c.in-Some.ensures))))),
)
