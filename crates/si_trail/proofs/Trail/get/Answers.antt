use Rattle.std.proofs.Common.{◌∙◌, ap, arith, length, refl}
use Rattle.si_trail.specs.Trails.{value_at}
use Rattle.si_trail.proofs.BoundLaws.{place_read, told_there, told_other, told_none, told_past}
use Rattle.si_trail.proofs.Trail.get.Goals as goal

pub returns-in_default : goal.returns-in_default
returns-in_default g c =
    told_past c.self.inside.places.items c.self.inside.slots _ c.args.slot c.self.inside.bound.items c.self.inside.bound.items refl c.self.invariant (omega (arith, c.in_default.ensures.lookup.3, ap length c.deref.ensures.value))
    ∙ ap (λ t. value_at t.pairs c.args.slot) c.self.view_is

pub returns-then-binding-slot : goal.returns-then-binding-slot
returns-then-binding-slot g c =
    told_there _ _ c.args.slot c.in-Some.place.now c.in-Some-get.binding.now c.deref-2.ensures.value c.self.invariant.distinct c.in-Some-get.ensures.lookup.3.0 c.in-Some-get.ensures.lookup.1 (omega (arith, c.if-binding-slot.true))
    ∙ ap (λ t. value_at t.pairs c.args.slot) c.self.view_is

pub returns-else-binding-slot : goal.returns-else-binding-slot
returns-else-binding-slot g c =
    told_other _ _ c.args.slot c.in-Some.place.now c.in-Some-get.binding.now c.deref-2.ensures.value
    (λ other x there. place_read _ _ c.args.slot c.in-Some.place.now other c.deref.ensures.value c.in-Some.ensures.lookup.3.0 c.in-Some.ensures.lookup.1 (c.self.invariant.at other c.args.slot x there))
    c.in-Some-get.ensures.lookup.3.0 c.in-Some-get.ensures.lookup.1 (λ same. absurd (omega (arith, c.if-binding-slot.false, same)))
    ∙ ap (λ t. value_at t.pairs c.args.slot) c.self.view_is

pub returns-in-None : goal.returns-in-None
returns-in-None g c =
    told_none _ _ c.args.slot c.in-Some.place.now c.deref-2.ensures.value
    (λ other x there. place_read _ _ c.args.slot c.in-Some.place.now other c.deref.ensures.value c.in-Some.ensures.lookup.3.0 c.in-Some.ensures.lookup.1 (c.self.invariant.at other c.args.slot x there))
    c.in-None.ensures.lookup.3
    ∙ ap (λ t. value_at t.pairs c.args.slot) c.self.view_is
