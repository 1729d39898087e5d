use Rattle.std.proofs.Common.{sym, subst}
use Rattle.si_unify.specs.Solving.{IsTriangularBy}
use Rattle.si_tests.proofs.equations.answer.Goals as goal

pub solve_with-requires-clause-triangular : goal.solve_with-requires-clause-triangular
solve_with-requires-clause-triangular c = (λ z. 0, subst (λ t. IsTriangularBy c.args.slots.now (λ z. 0) t.pairs) (sym c.in_ok-trail.ensures) tt)

pub solve-requires-clause-triangular : goal.solve-requires-clause-triangular
solve-requires-clause-triangular c = (λ z. 0, subst (λ t. IsTriangularBy c.args.slots.now (λ z. 0) t.pairs) (sym c.in_ok-trail.ensures) tt)
