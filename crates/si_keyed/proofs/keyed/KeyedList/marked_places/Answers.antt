use Rattle.std.proofs.Common.{sym, ◌∙◌, ap, length, slice_get, subst, arith}
use Rattle.si_defs.specs.Substitutions.{IsAmong}
use Rattle.si_keyed.specs.Placed.{placed_from}
use Rattle.si_keyed.specs.KeyedSlots.{kept, HaveFewHoles, IsIndexed}
use Rattle.si_keyed.proofs.PlacedLaws.{items_placed, places_rise}
use Rattle.si_keyed.proofs.MarkLaws.{have_marks}
use Rattle.si_keyed.proofs.keyed.KeyedList.marked_places.Goals as goal

pub invariant_of-places : goal.invariant_of-places
invariant_of-places g c =
    let same = sym c.as_slice.ensures.value in (
      subst (λ slots. IsIndexed slots c.self.inside.places c.self.inside.ranks) same c.self.invariant.0,
      subst HaveFewHoles same c.self.invariant.1,
      omega (arith, ap length same, c.self.inside.slots.ok, c.self.inside.slots.small),
    )

pub returns-clause-items : goal.returns-clause-items
returns-clause-items g c = items_placed 0 c.as_slice.result.now ∙ ap kept c.as_slice.ensures.value ∙ ap (λ l. l.items) c.self.view_is

pub returns-clause-rise : goal.returns-clause-rise
returns-clause-rise g c = places_rise 0 c.as_slice.result.now

pub returns-clause-marks : goal.returns-clause-marks
returns-clause-marks g c = λ place key item there.
    let slots = c.self.inside.slots.items in
    let marks = c.self.inside.marks.items in
    let found = have_marks slots marks c.self.invariant.2 place key item (subst (λ s. IsAmong (placed_from 0 s) (place, (key, item))) c.as_slice.ensures.value there) in (
      found.0,
      ap (λ l. slice_get l place) c.as_slice-2.ensures.value ∙ found.1,
      subst (λ l. IsAmong l (key, found.0)) (ap (λ l. l.marks) c.self.view_is) found.2,
    )

pub returns-clause-few : goal.returns-clause-few
returns-clause-few g c = omega (arith, ap length c.as_slice-2.ensures.value, c.self.invariant.2, c.self.invariant.1, ap length (ap (λ l. l.items) c.self.view_is))
