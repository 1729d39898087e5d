use Rattle.std.proofs.Common.{true, sym, subst}
use Rattle.si_unify.specs.Solving.{IsTriangularBy, HasSolved}
use Rattle.si_measure.proofs.solving.solve_over.Goals as goal

pub solve_with-requires-clause-triangular : goal.solve_with-requires-clause-triangular
solve_with-requires-clause-triangular c = (λ z. 0, subst (IsTriangularBy c.args.slots.now (λ z. 0)) (sym c.loop.invariant.1) tt)

pub solve_with-requires-2-clause-triangular : goal.solve_with-requires-2-clause-triangular
solve_with-requires-2-clause-triangular c = (λ z. 0, subst (IsTriangularBy c.args.slots.now (λ z. 0)) (sym c.loop.invariant.1) tt)

pub returns : goal.returns
returns c =
    let slots = c.args.slots.now in
    let left = c.args.left.now in
    let right = c.args.right.now in
    let new = c.solve_with-2.new.trail.pairs in
    record {
      pairs = new;
      solved =
          subst (λ old. HasSolved slots old new left right true) c.loop.invariant.1
          (subst (HasSolved slots c.loop.trail.pairs new left right) c.if-not-branch-2.false c.in_ok-solve_with-2.ensures.solved);
      count = c.mark.ensures.number;
    }
