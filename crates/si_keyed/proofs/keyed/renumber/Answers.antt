use Rattle.std.proofs.Common.{◌≡◌, ◌+◌, refl, sym, ◌∙◌, subst, arith}
use Rattle.slab.specs.Slab.{get, slab_len}
use Rattle.si_keyed.specs.KeyedSlots.{HoldsAt}
use Rattle.si_keyed.proofs.LinkLaws.{AreTold, has_key, told_hole, told_more, told_all}
use Rattle.si_keyed.proofs.IndexedLaws.{some_there, slot_is}
use Rattle.si_keyed.proofs.keyed.renumber.Goals as goal
use Rattle.si_keyed.proofs.keyed.renumber.Goals.{in-Some, in_default}

pub lead-requires : goal.lead-requires
lead-requires g c =
    let at : HoldsAt c.args.slots.now c.loop-place.place c.in-Some.kept = slot_is c.args.slots.now _ _ _ c.loop-place-test.true c.index-slots-place.is c.in-Some.is in
    let found = c.loop-place.invariant.0.knows.known c.in-Some.kept.key (has_key c.args.slots.now _ c.in-Some.kept at) in
    some_there found.0 found.1

pub loop-place-preserved : goal.loop-place-preserved
loop-place-preserved g c =
    elim c.match-slot.branch [
      | in-Some w ↦
          let at : HoldsAt c.args.slots.now c.loop-place.place w.in-Some.kept = slot_is c.args.slots.now _ _ _ c.loop-place-test.true c.index-slots-place.is w.in-Some.is in
          subst
          (λ p. AreTold c.args.slots.now (c.loop-place.place + 1) (λ key. get p key) × (slab_len p ≡ slab_len c.args.places.now))
          (sym w.places-is) (
            told_more c.args.slots.now _ _ w.in-Some.kept (λ key. get c.loop-place.places key) _ c.loop-place.invariant.0 at w.lead.ensures.updates.changed w.lead.ensures.updates.others refl,
            w.lead.ensures.number ∙ c.loop-place.invariant.1,
          )
      | in_default w ↦
          subst
          (λ p. AreTold c.args.slots.now (c.loop-place.place + 1) (λ key. get p key) × (slab_len p ≡ slab_len c.args.places.now))
          (sym w.places-is) (
            told_hole c.args.slots.now _ _ _ c.loop-place.invariant.0 (slot_is c.args.slots.now _ _ _ c.loop-place-test.true c.index-slots-place.is w.in_default.is) refl,
            c.loop-place.invariant.1,
          )
    ]

pub returns-clause-linked : goal.returns-clause-linked
returns-clause-linked g c =
    told_all c.args.slots.now _ _ c.loop-place.invariant.0 (omega (arith, c.loop-place-test.false))
