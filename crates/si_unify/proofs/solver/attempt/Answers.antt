use Rattle.std.proofs.Common.{sym, subst}
use Rattle.std.proofs.lemmas.Result.{on_err_weaker}
use Rattle.si_unify.specs.Spots.{ArePairs}
use Rattle.si_unify.proofs.Answering.{legal_at_first}
use Rattle.si_unify.proofs.solver.attempt.Goals as goal

pub solve-requires-clause-underway : goal.solve-requires-clause-underway
solve-requires-clause-underway c = record {
  legal = legal_at_first _ _ c.requires.bindings c.requires.triangular c.requires.left c.requires.right c.requires.left_range c.requires.right_range;
  keys = subst (ArePairs c.args.question.now c.args.trail.now.pairs) (sym c.requires.clear.keys) tt;
  room = c.requires.room;
}

pub returns-clause-full : goal.returns-clause-full
returns-clause-full c =
    on_err_weaker c.solve.result
    (λ lacks n values left right enough.
    lacks n
    (record { values = values; left = left; right = right; heights = enough.heights; spot_pairs = enough.spot_pairs })
    enough.states enough.visits)
    c.solve.ensures.full
