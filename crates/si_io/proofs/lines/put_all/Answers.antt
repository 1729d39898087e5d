use Rattle.si_io.proofs.LineLaws.{wrote_last, wrote_broken}
use Rattle.si_io.proofs.lines.put_all.Goals as goal

pub returns-in_err-put_lines : goal.returns-in_err-put_lines
returns-in_err-put_lines g c =
    wrote_broken (g.A.Lines.line c.args.lines.now) (g.A.Lines.count c.args.lines.now) (g.A.Lines.last c.args.lines.now) c.from_residual.result _ (g.K.Sink.shown c.args.sink.now) (g.K.Sink.shown c.put_lines.new.sink)
    c.from_residual.ensures.1 c.in_err-put_lines.ensures

pub returns : goal.returns
returns g c =
    wrote_last (g.A.Lines.line c.args.lines.now) (g.A.Lines.count c.args.lines.now) (g.A.Lines.last c.args.lines.now) c.put_last.result (g.K.Sink.shown c.args.sink.now) (g.K.Sink.shown c.put_lines.new.sink)
    (g.K.Sink.shown c.put_last.new.sink) c.in_ok-put_lines.ensures c.put_last.ensures
