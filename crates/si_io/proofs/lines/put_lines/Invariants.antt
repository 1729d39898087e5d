use Rattle.si_io.proofs.LineLaws.{WroteTo}
use Rattle.si_io.proofs.lines.put_lines.Given as goal

-- the lines before this one were written
abbrev pub invariant-loop-n : goal.invariant-loop-n
invariant-loop-n g l = record {
  wrote : WroteTo (g.A.Lines.line l.lines) l.n (g.K.Sink.shown l.fn.sink) (g.K.Sink.shown l.sink);
}
