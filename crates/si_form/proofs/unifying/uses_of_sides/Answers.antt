use Rattle.std.proofs.Common.{◌∷◌, [], length, length-append, None, sym, ◌∙◌, ap, arith, refl}
use Rattle.std.proofs.lemmas.Option.{get_or_from_slice_get, slice_get_read}
use Rattle.si_form.specs.Ordering.{list_of}
use Rattle.si_form.specs.Unifying.{slots_among}
use Rattle.si_form.proofs.UnifierThere.{sides_use_more}
use Rattle.si_form.proofs.unifying.uses_of_sides.Goals as goal

pub loop-slot-preserved : goal.loop-slot-preserved
loop-slot-preserved c = (
  ap (λ l. length l) c.in_ok-push.ensures.items ∙ omega (arith, length-append c.loop-slot.lists.items (c.in_ok-used.used ∷ []), c.loop-slot.invariant.0),
  sides_use_more c.args.slots.now c.args.rights.now c.loop-slot.lists.items _ c.in_ok-used.used c.loop-slot.slot c.loop-slot.invariant.0 c.loop-slot.invariant.1 c.in_ok-push.ensures.items
      (
      c.in_ok-used.ensures
      ∙ ap (λ o. slots_among c.args.slots.now (list_of o)) (sym (get_or_from_slice_get c.args.rights.now c.loop-slot.slot c.index-rights-slot.result None (slice_get_read c.args.rights.now _ c.loop-slot.slot c.index-rights-slot.result refl c.loop-slot-test.true c.index-rights-slot.is)))
      ),
)
