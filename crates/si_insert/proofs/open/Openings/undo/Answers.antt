use Rattle.std.proofs.Common.{sym, subst}
use Rattle.si_defs.specs.Substitutions.{AreDistinct}
use Rattle.si_insert.specs.Opened.{numbers, AreListedFrom}
use Rattle.si_insert.proofs.OpenedLaws.{at_taken, distinct_taken}
use Rattle.si_insert.proofs.open.Openings.undo.Goals as goal

pub invariant_of-self : goal.invariant_of-self
invariant_of-self c = (
  subst (AreListedFrom c.self.inside.places.items 0) (sym c.truncate.ensures.items) (at_taken c.self.inside.places.items 0 c.args.mark c.self.inside.opened.items c.self.invariant.0),
  subst (λ l. AreDistinct (numbers l)) (sym c.truncate.ensures.items) (distinct_taken c.args.mark c.self.inside.opened.items c.self.invariant.1),
)
