use Rattle.std.proofs.Common.{drop}
use Rattle.si_defs.specs.Variables as variables
use Rattle.si_reply.specs.NamedLists.{ShowsList}
use Rattle.si_reply.specs.PrintedParts.{bindings_text, more_bindings_text}
use Rattle.si_reply.proofs.Writing.{Wrote}
use Rattle.si_reply.proofs.solution.put_bindings.Given as goal

abbrev pub invariant-loop-n : goal.invariant-loop-n
invariant-loop-n g l = record {
  wrote : (list : variables.Solution) → ShowsList l.naming l.solution list
      → Wrote (g.K.Sink.shown l.fn.sink) (g.K.Sink.shown l.sink) (bindings_text list) (more_bindings_text (drop l.n list));
}
