use Rattle.std.proofs.Common.{[], ◌∷◌, length, length-append, sym, ◌∙◌, ap, arith}
use Rattle.si_form.specs.Uses.{used_by}
use Rattle.si_form.proofs.UsesLaws.{uses_more}
use Rattle.si_form.proofs.uses.uses.Goals as goal

pub loop-slot-preserved : goal.loop-slot-preserved
loop-slot-preserved c = (
  ap (λ l. length l) c.in_ok-push.ensures.items ∙ omega (arith, length-append c.loop-slot.lists.items (c.in_ok-used.used ∷ []), c.loop-slot.invariant.0),
  uses_more c.args.slots.now c.args.trail.now.pairs c.loop-slot.lists.items _ c.in_ok-used.used c.loop-slot.invariant.1 c.in_ok-push.ensures.items (c.in_ok-used.ensures ∙ ap (used_by c.args.slots.now c.args.trail.now.pairs) (sym c.loop-slot.invariant.0)),
)
