use Rattle.std.proofs.Common.{◌+◌, ◌*◌, ◌≤◌, length}
use Rattle.si_defs.specs.Terms as terms
use Rattle.si_defs.specs.Symbols as symbols
use Rattle.si_defs.specs.Variables as variables
use Rattle.si_reply.specs.NamedLists.{ShowAll}
use Rattle.si_reply.proofs.NamingLaws.{LeftToPut}
use Rattle.si_reply.proofs.solution.+put_terms.Given as goal

abbrev pub decreases-put_flat : goal.decreases-put_flat
decreases-put_flat g l = 3 * length l.cells.now

abbrev pub decreases-put_flat_arguments : goal.decreases-put_flat_arguments
decreases-put_flat_arguments g l = 3 * length l.cells.now + 2

abbrev pub decreases-put_flat_others : goal.decreases-put_flat_others
decreases-put_flat_others g l = 3 * length l.cells.now + 1

abbrev pub invariant-put_flat_others-loop-rest : goal.invariant-put_flat_others-loop-rest
invariant-put_flat_others-loop-rest g l = record {
  left : (ts : terms.Terms symbols.Symbol variables.Variable) → ShowAll l.naming l.cells ts
      → LeftToPut l.naming l.rest (g.K.Sink.shown l.fn.sink) (g.K.Sink.shown l.sink) ts;
  shorter : length l.rest ≤ length l.cells;
}

abbrev pub decreases-put_flat_others-loop-rest : goal.decreases-put_flat_others-loop-rest
decreases-put_flat_others-loop-rest g l = length l.rest
