use Rattle.std.proofs.Common.{◌∷◌, [], length, length-append, sym, ◌∙◌, ap, subst, arith}
use Rattle.si_form.specs.Classes.{HasClasses}
use Rattle.si_form.proofs.TrailLaws.{has_general}
use Rattle.si_form.proofs.FoundLaws.{classes_inside, has_terms, sides_more}
use Rattle.si_form.proofs.unifying.right_sides.Goals as goal

pub of-requires-clause-inside : goal.of-requires-clause-inside
of-requires-clause-inside c =
    let some = has_general c.args.slots.now c.requires.free.query c.requires.free.entry c.args.trail.now.pairs c.requires.bindings c.slots-count.ensures.distinct c.requires.triangular in
    classes_inside c.args.slots.now c.args.trail.now.pairs _ _ some.0 some.1 c.in_ok-classes.ensures

pub of-requires-clause-terms : goal.of-requires-clause-terms
of-requires-clause-terms c =
    let some = has_general c.args.slots.now c.requires.free.query c.requires.free.entry c.args.trail.now.pairs c.requires.bindings c.slots-count.ensures.distinct c.requires.triangular in
    has_terms c.args.slots.now c.args.trail.now.pairs _ _ some.0 some.1 c.in_ok-classes.ensures

pub loop-slot-preserved : goal.loop-slot-preserved
loop-slot-preserved c = (
  ap (λ l. length l) c.in_ok-push.ensures.items ∙ omega (arith, length-append c.loop-slot.rights.items (c.in_ok-right.right ∷ []), c.loop-slot.invariant.0),
  sides_more c.args.slots.now c.args.trail.now.pairs c.loop-slot.rights.items _ c.in_ok-right.right c.loop-slot.slot c.loop-slot.invariant.0 c.loop-slot.invariant.1 c.in_ok-push.ensures.items c.in_ok-right.ensures,
)

pub right_side-requires-clause-found : goal.right_side-requires-clause-found
right_side-requires-clause-found c = record {
  some = has_general c.args.slots.now c.requires.free.query c.requires.free.entry c.args.trail.now.pairs c.requires.bindings c.slots-count.ensures.distinct c.requires.triangular;
  classes_are =
      subst (λ classes. HasClasses c.args.slots.now c.args.trail.now.pairs c.in_ok-folding.folding.nodes classes) (sym c.in_ok-folding.ensures.classes)
      (subst (λ nodes. HasClasses c.args.slots.now c.args.trail.now.pairs nodes c.in_ok-classes.classes.of_slots.items) (sym c.in_ok-folding.ensures.nodes) c.in_ok-classes.ensures);
}
