use Rattle.std.proofs.Common.{ap, subst}
use Rattle.si_defs.specs.Substitutions.{AreDistinct}
use Rattle.si_keyed.specs.Keyed.{item_keys}
use Rattle.si_keyed.proofs.LinkLaws.{linked_knows}
use Rattle.si_keyed.proofs.keyed.KeyedList.len.Goals as goal

pub returns-clause-distinct : goal.returns-clause-distinct
returns-clause-distinct g c =
    subst (λ l. AreDistinct (item_keys l)) (ap (λ l. l.items) c.self.view_is) (linked_knows c.self.inside.slots.items _ c.self.invariant.0.linked).distinct
