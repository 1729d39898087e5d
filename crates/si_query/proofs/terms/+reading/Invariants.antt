use Rattle.std.proofs.Common.{◌+◌, ◌*◌, ◌≤◌, length}
use Rattle.si_query.proofs.ArgumentLaws.{IsAlong}
use Rattle.si_query.proofs.terms.+reading.Given as goal

abbrev pub decreases-application : goal.decreases-application
decreases-application g l = 2 * length l.tokens.now + 1

abbrev pub decreases-applied : goal.decreases-applied
decreases-applied g l = 2 * length l.tokens.now

abbrev pub decreases-arguments : goal.decreases-arguments
decreases-arguments g l = 2 * length l.tokens.now + 1

abbrev pub decreases-term : goal.decreases-term
decreases-term g l = 2 * length l.tokens.now

-- what is left goes on as the tokens do, and some arguments were written
abbrev pub invariant-arguments-loop-rest : goal.invariant-arguments-loop-rest
invariant-arguments-loop-rest g l =
    (IsAlong (g.T.SymTable.pairs l.table) l.tokens l.fn.writer l.writer l.count l.left) × (1 ≤ l.count)

abbrev pub decreases-arguments-loop-rest : goal.decreases-arguments-loop-rest
decreases-arguments-loop-rest g l = length l.left
