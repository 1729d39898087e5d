use Rattle.std.proofs.Common.{sym, ◌∙◌, ap, refl}
use Rattle.si_unify.specs.Circles.{below_value}
use Rattle.si_unify.proofs.Searching.{none_bound, only_unbound}
use Rattle.si_unify.proofs.circles.is_resolved.Goals as goal

pub returns-in-Some : goal.returns-in-Some
returns-in-Some c =
    let slots = c.args.slots.now in
    let pairs = c.args.trail.now.pairs in
    let cells = c.in-Some.value.now.now in
    let below = ap (below_value slots pairs) c.in-Some.ensures in (
      λ t. sym below ∙ none_bound slots pairs cells (c.are_unbound.ensures.0 t),
      λ none. c.are_unbound.ensures.1 (only_unbound slots pairs cells (below ∙ none)),
    )

pub returns-in-None : goal.returns-in-None
returns-in-None c = (λ t. ap (below_value c.args.slots.now c.args.trail.now.pairs) (sym c.in-None.ensures), λ none. refl)
