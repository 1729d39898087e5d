use Rattle.std.proofs.Common.{None, length, slice_index_or, slice_set, sym, ◌∙◌, ap, subst, arith}
use Rattle.std.proofs.lemmas.List.{length-set}
use Rattle.si_keyed.specs.Keyed.{HasKey, IsTakenOut}
use Rattle.si_keyed.specs.KeyedSlots.{kept, marked, HoldsAt, IsIndexed}
use Rattle.si_keyed.proofs.SlotLaws.{stands_inside, flag_there}
use Rattle.si_keyed.proofs.IndexedLaws.{is_known, place_within, slot_is, indexed_without, took}
use Rattle.si_keyed.proofs.MarkLaws.{mark_taken}
use Rattle.si_keyed.proofs.keyed.KeyedList.remove.Goals as goal

pub remove-place-requires : goal.remove-place-requires
remove-place-requires g c =
    is_known c.self.inside.slots.items _ c.args.key c.self.invariant.0.linked (subst (λ l. HasKey l c.args.key) (sym (ap (λ l. l.items) c.self.view_is)) c.requires)

pub lower-requires-clause-inside : goal.lower-requires-clause-inside
lower-requires-clause-inside g c =
    place_within c.self.inside.slots.items c.self.inside.ranks _ c.args.key _ c.self.invariant.0.linked c.self.invariant.0.counted c.remove-place.ensures.value

pub lower-requires-clause-some : goal.lower-requires-clause-some
lower-requires-clause-some g c =
    let found = c.self.invariant.0.linked.back c.args.key _ c.remove-place.ensures.value in
    omega (arith, ap (λ l. slice_index_or l c.remove-place.result 0) c.self.invariant.0.counted, flag_there c.self.inside.slots.items _ found.0 found.1)

pub index_mut-requires : goal.index_mut-requires
index_mut-requires g c =
    let found = c.self.invariant.0.linked.back c.args.key _ c.remove-place.ensures.value in
    omega (arith, c.self.inside.slots.ok, stands_inside c.self.inside.slots.items _ found.0 found.1)

pub close_if_sparse-requires-clause-indexed : goal.close_if_sparse-requires-clause-indexed
close_if_sparse-requires-clause-indexed g c =
    let place = c.remove-place.ensures in
    subst
    (λ s. IsIndexed (slice_set c.self.inside.slots.items c.remove-place.result s) c.remove-place.new.self c.lower.new.self)
    (sym c.take.ensures.after)
    (indexed_without c.self.inside.slots.items c.self.inside.places _ c.self.inside.ranks _ c.args.key _ c.self.invariant.0 place.value place.updates place.len c.lower.ensures)

pub returns-clause-taken : goal.returns-clause-taken
returns-clause-taken g c =
    let slots = c.self.inside.slots.items in
    let found = c.self.invariant.0.linked.back c.args.key _ c.remove-place.ensures.value in
    let at : HoldsAt slots c.remove-place.result c.unwrap-taken.result =
    slot_is slots _ _ _ (stands_inside slots _ found.0 found.1) c.index_mut.ensures.value (sym c.take.ensures.value ∙ c.unwrap-taken.ensures) in
    took slots _ c.args.key _ c.unwrap-taken.result _ _ c.self.invariant.0.linked c.remove-place.ensures.value at (ap (λ l. l.items) c.self.view_is)
    (c.close_if_sparse.ensures.same ∙ ap (λ s. kept (slice_set slots c.remove-place.result s)) c.take.ensures.after)

pub returns-clause-few_holes : goal.returns-clause-few_holes
returns-clause-few_holes g c = c.close_if_sparse.ensures.few_holes

pub close_if_sparse-requires-clause-marked : goal.close_if_sparse-requires-clause-marked
close_if_sparse-requires-clause-marked g c =
    c.self.invariant.2
    ∙ sym (length-set c.self.inside.slots.items c.remove-place.result None)
    ∙ ap (λ s. length (slice_set c.self.inside.slots.items c.remove-place.result s)) (sym c.take.ensures.after)

pub returns-clause-marks : goal.returns-clause-marks
returns-clause-marks g c =
    let slots = c.self.inside.slots.items in
    let marks = c.self.inside.marks.items in
    let found = c.self.invariant.0.linked.back c.args.key _ c.remove-place.ensures.value in
    let out = mark_taken slots marks c.remove-place.result found.0 found.1 c.self.invariant.2 in
    let without = marked (slice_set slots c.remove-place.result None) marks in
    let rest = c.close_if_sparse.ensures.same_marks ∙ ap (λ s. marked (slice_set slots c.remove-place.result s) marks) c.take.ensures.after in (
      out.0,
      subst (λ l. IsTakenOut l c.args.key out.0 (marked c.close_if_sparse.new.slots.items c.close_if_sparse.new.marks.items)) (ap (λ l. l.marks) c.self.view_is)
          (subst (IsTakenOut (marked slots marks) c.args.key out.0) (sym rest)
          (subst (λ n. IsTakenOut (marked slots marks) n out.0 without) found.2 out.1)),
    )
