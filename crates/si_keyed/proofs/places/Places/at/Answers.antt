use Rattle.std.proofs.Common.{◌≡◌, Some, is_some, length, take, slice_get, sym, ◌∙◌, ap, arith}
use Rattle.std.proofs.lemmas.Option.{same_Some}
use Rattle.std.specs.Option.{option_copied}
use Rattle.si_keyed.specs.Halves.{sum_of}
use Rattle.si_keyed.specs.KeyedSlots.{flags}
use Rattle.si_keyed.proofs.SlotLaws.{flags_length, stands_inside}
use Rattle.si_keyed.proofs.IndexedLaws.{read_there, total_bound}
use Rattle.si_keyed.proofs.PlacedLaws.{holds_place, placed_there}
use Rattle.si_keyed.proofs.places.Places.at.Goals as goal

pub bounds-slots-place : goal.bounds-slots-place
bounds-slots-place g c =
    let held = holds_place c.self.inside.slots.now c.args.self.now c.args.place c.self.view_is c.requires in
    stands_inside c.self.inside.slots.now c.args.place held.0 held.1

pub offset_bounds-slots-place : goal.offset_bounds-slots-place
offset_bounds-slots-place g c =
    let held = holds_place c.self.inside.slots.now c.args.self.now c.args.place c.self.view_is c.requires in
    omega (arith, stands_inside c.self.inside.slots.now c.args.place held.0 held.1)

pub unwrap-kept-requires : goal.unwrap-kept-requires
unwrap-kept-requires g c =
    let held = holds_place c.self.inside.slots.now c.args.self.now c.args.place c.self.view_is c.requires in
    c.as_ref.ensures.variant ∙ ap is_some (read_there c.self.inside.slots.now _ _ held.0 held.1 c.index-slots-place.is)

pub before-requires-clause-inside : goal.before-requires-clause-inside
before-requires-clause-inside g c =
    let held = holds_place c.self.inside.slots.now c.args.self.now c.args.place c.self.view_is c.requires in
    omega (arith, stands_inside c.self.inside.slots.now c.args.place held.0 held.1, flags_length c.self.inside.slots.now, ap length c.self.invariant.0.counted)

pub before-requires-clause-small : goal.before-requires-clause-small
before-requires-clause-small g c =
    omega (arith, total_bound c.self.inside.slots.now c.self.inside.ranks.now c.self.invariant.0.counted, c.self.invariant.2)

pub returns : goal.returns
returns g c =
    let slots = c.self.inside.slots.now in
    let held = holds_place slots c.args.self.now c.args.place c.self.view_is c.requires in
    let item : held.0 ≡ c.unwrap-kept.result.now =
    same_Some _ _ (sym (read_there slots _ _ held.0 held.1 c.index-slots-place.is) ∙ sym c.as_ref.ensures.value ∙ ap option_copied c.unwrap-kept.ensures) in
    let position : sum_of (take c.args.place (flags slots)) ≡ c.before-2.result = ap (λ l. sum_of (take c.args.place l)) (sym c.self.invariant.0.counted) ∙ sym c.before-2.ensures in (
      held.0.key,
      sym (λ i. slice_get (c.self.view_is i) (position i)) ∙ placed_there 0 slots c.args.place c.args.place held.0 held.1 (omega arith) ∙ ap (λ i. Some (c.args.place, (held.0.key, i.item))) item,
    )
