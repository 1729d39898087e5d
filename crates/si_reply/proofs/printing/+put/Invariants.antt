use Rattle.std.proofs.Common.{◌+◌, ◌*◌, ◌++◌, drop, map}
use Rattle.si_defs.specs.Terms.{row, size, sizes}
use Rattle.si_defs.specs.Printing.{more_texts}
use Rattle.si_term.specs.Terms.{term_of}
use Rattle.si_reply.proofs.Writing.{Wrote}
use Rattle.si_reply.proofs.printing.+put.Given as goal

abbrev pub invariant-put_others-loop-i : goal.invariant-put_others-loop-i
invariant-put_others-loop-i g l = record {
  wrote : Wrote (g.K.Sink.shown l.fn.sink) (g.K.Sink.shown l.sink)
      (more_texts (λ x. l.mark ++ x) (row (map term_of l.terms)))
      (more_texts (λ x. l.mark ++ x) (row (map term_of (drop l.i l.terms))));
}

abbrev pub decreases-put_term : goal.decreases-put_term
decreases-put_term g l = 3 * size (term_of l.term.now)

abbrev pub decreases-put_arguments : goal.decreases-put_arguments
decreases-put_arguments g l = 3 * sizes (row (map term_of l.terms.now)) + 2

abbrev pub decreases-put_others : goal.decreases-put_others
decreases-put_others g l = 3 * sizes (row (map term_of l.terms.now)) + 1
