use Rattle.std.proofs.Common.{ap, sym, subst}
use Rattle.si_unify.specs.Solving.{IsAcyclic}
use Rattle.si_form.proofs.SolvedLaws.{none_bound}
use Rattle.si_guide.proofs.solving.have_common.Goals as goal

pub solve-requires-clause-triangular : goal.solve-requires-clause-triangular
solve-requires-clause-triangular c = subst (IsAcyclic c.args.slots.now) (sym (ap (λ t. t.pairs) c.in_ok-trail.ensures)) (none_bound c.args.slots.now)
