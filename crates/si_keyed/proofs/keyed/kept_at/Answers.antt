use Rattle.std.proofs.Common.{◌≡◌, Some, is_some, sym, ◌∙◌, ap, arith}
use Rattle.std.proofs.lemmas.Option.{same_Some}
use Rattle.std.specs.Option.{option_copied}
use Rattle.si_keyed.proofs.SlotLaws.{entry, stands_inside}
use Rattle.si_keyed.proofs.IndexedLaws.{total_kept, read_there, found_at}
use Rattle.si_keyed.proofs.keyed.kept_at.Goals as goal

pub find-place-requires-clause-inside : goal.find-place-requires-clause-inside
find-place-requires-clause-inside g c = omega (arith, c.requires.inside, total_kept c.args.slots.now c.args.ranks.now c.requires.counted)

pub bounds-slots-place : goal.bounds-slots-place
bounds-slots-place g c =
    let found = found_at c.args.slots.now c.args.ranks.now _ _ c.args.position c.requires.counted c.find-place.ensures.before c.find-place.ensures.there in
    stands_inside c.args.slots.now _ found.0 found.1

pub offset_bounds-slots-place : goal.offset_bounds-slots-place
offset_bounds-slots-place g c =
    let found = found_at c.args.slots.now c.args.ranks.now _ _ c.args.position c.requires.counted c.find-place.ensures.before c.find-place.ensures.there in
    omega (arith, stands_inside c.args.slots.now _ found.0 found.1)

pub unwrap-requires : goal.unwrap-requires
unwrap-requires g c =
    let found = found_at c.args.slots.now c.args.ranks.now _ _ c.args.position c.requires.counted c.find-place.ensures.before c.find-place.ensures.there in
    c.as_ref.ensures.variant ∙ ap is_some (read_there c.args.slots.now _ _ found.0 found.1 c.index-slots-place.is)

pub returns : goal.returns
returns g c =
    let found = found_at c.args.slots.now c.args.ranks.now _ _ c.args.position c.requires.counted c.find-place.ensures.before c.find-place.ensures.there in
    let item : found.0 ≡ c.unwrap.result.now =
    same_Some _ _ (sym (read_there c.args.slots.now _ _ found.0 found.1 c.index-slots-place.is) ∙ sym c.as_ref.ensures.value ∙ ap option_copied c.unwrap.ensures) in
    found.2 ∙ ap (λ i. Some (entry i)) item
