use Rattle.std.proofs.Common.{drop}
use Rattle.si_reply.specs.PrintedParts.{numbers_behind}
use Rattle.si_reply.proofs.Writing.{Wrote}
use Rattle.si_reply.proofs.printing.put_numbers.Given as goal

abbrev pub invariant-loop-i : goal.invariant-loop-i
invariant-loop-i g l = record {
  wrote : Wrote (g.K.Sink.shown l.fn.sink) (g.K.Sink.shown l.sink) (numbers_behind l.mark l.numbers) (numbers_behind l.mark (drop l.i l.numbers));
}
