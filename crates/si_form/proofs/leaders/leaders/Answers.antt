use Rattle.std.proofs.Common.{◌≡◌, ◌<◌, length, replicate, None, ◌∙◌, ap, subst, arith, refl}
use Rattle.std.proofs.lemmas.List.{length-set, length-replicate}
use Rattle.std.proofs.lemmas.Option.{slice_get_read}
use Rattle.si_form.specs.Folding.{LeadClasses}
use Rattle.si_form.proofs.FoldingLaws.{leads_begin, leads_more, all_fresh}
use Rattle.si_form.proofs.leaders.leaders.Goals as goal

pub loop-slot-init : goal.loop-slot-init
loop-slot-init c =
    let fresh : c.resize.new.self.items ≡ replicate c.len.result None =
    all_fresh None c.len.result _ c.new-leaders.result.items _ c.new-leaders.ensures.items c.new-leaders.ensures.len c.in_ok-resize.ensures.items in (
      ap (λ l. length l) fresh ∙ length-replicate c.len.result None ∙ c.len.ensures.len,
      λ slots. leads_begin slots c.args.classes.now.nodes.keys c.args.classes.now.of_slots.items _ c.len.result c.len.ensures.len fresh,
    )

pub loop-slot-preserved : goal.loop-slot-preserved
loop-slot-preserved c =
    let inside : c.loop-slot.slot < length c.args.classes.now.of_slots.items = omega (arith, c.loop-slot-test.true, c.len-slot-end.ensures, c.args.classes.now.of_slots.ok) in (
      ap (λ l. length l) c.lead.ensures ∙ length-set c.loop-slot.leaders.items _ _ ∙ c.loop-slot.invariant.0,
      λ slots.
          leads_more slots c.args.classes.now.nodes.keys c.args.classes.now.of_slots.items c.loop-slot.slot c.index.result.now c.loop-slot.leaders.items _ inside
          (slice_get_read c.args.classes.now.of_slots.items _ c.loop-slot.slot _ refl inside c.index.ensures)
          c.lead.ensures (c.loop-slot.invariant.1 slots),
    )

pub returns-clause-leads : goal.returns-clause-leads
returns-clause-leads c = λ slots.
    let same : c.loop-slot.slot ≡ length c.args.classes.now.of_slots.items = omega (arith, c.loop-slot-test.false, c.loop-slot.auto.slot-end, c.len-slot-end.ensures, c.args.classes.now.of_slots.ok) in
    subst (λ k. LeadClasses slots c.args.classes.now.nodes.keys c.args.classes.now.of_slots.items k c.loop-slot.leaders.items) same (c.loop-slot.invariant.1 slots)
