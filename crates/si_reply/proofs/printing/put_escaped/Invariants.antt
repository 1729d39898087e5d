use Rattle.std.proofs.Common.{◌≤◌, length}
use Rattle.std.specs.Prelude.{flat_map}
use Rattle.si_defs.specs.Tokens.{escaped}
use Rattle.si_reply.proofs.Writing.{Wrote}
use Rattle.si_reply.proofs.printing.put_escaped.Given as goal

abbrev pub invariant-loop-run : goal.invariant-loop-run
invariant-loop-run g l = record {
  wrote : Wrote (g.K.Sink.shown l.fn.sink) (g.K.Sink.shown l.sink) (flat_map (escaped l.quote) l.text) (flat_map (escaped l.quote) l.rest);
  shorter : length l.rest ≤ length l.text;
}

abbrev pub decreases-loop-run : goal.decreases-loop-run
decreases-loop-run g l = length l.rest
