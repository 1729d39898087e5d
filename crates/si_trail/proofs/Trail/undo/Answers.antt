use Rattle.std.proofs.Common.{sym, subst, take, drop}
use Rattle.si_trail.specs.Trails.{AreUnbound, HasDistinctSlots}
use Rattle.si_trail.proofs.BoundLaws.{table_taken, unbound_behind}
use Rattle.si_trail.proofs.Trail.undo.Goals as goal

pub invariant_of-self : goal.invariant_of-self
invariant_of-self g c = table_taken _ _ _ _ _ _ _ c.self.invariant c.truncate.ensures.capacity c.truncate.ensures.items

pub returns-clause-unbound : goal.returns-clause-unbound
returns-clause-unbound g c =
    let distinct : HasDistinctSlots c.args.self.now.pairs = subst (λ t. HasDistinctSlots t.pairs) c.self.view_is c.self.invariant.distinct in
    subst
    (λ ps. AreUnbound ps (drop c.args.mark c.args.self.now.pairs))
    (sym c.truncate.ensures.items)
    (subst (λ t. AreUnbound (take c.args.mark t.pairs) (drop c.args.mark c.args.self.now.pairs)) (sym c.self.view_is) (unbound_behind c.args.mark _ distinct))
