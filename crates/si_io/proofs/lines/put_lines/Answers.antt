use Rattle.std.proofs.Common.{arith}
use Rattle.si_io.proofs.LineLaws.{wrote_more, wrote_part}
use Rattle.si_io.proofs.lines.put_lines.Goals as goal

pub returns-in_err-put_line : goal.returns-in_err-put_line
returns-in_err-put_line g c =
    let did = c.in_err-put_line.ensures in
    wrote_part (g.A.Lines.line c.args.lines.now) (g.A.Lines.count c.args.lines.now) c.loop-n.n (omega (arith, c.loop-n-test.true, c.count-n-end.ensures)) c.requires c.from_residual.result _
    (g.K.Sink.shown c.args.sink.now) (g.K.Sink.shown c.loop-n.sink) (g.K.Sink.shown c.put_line.new.sink) c.from_residual.ensures.1 c.loop-n.invariant.wrote (did.0, did.1, did.2.part)

pub loop-n-preserved : goal.loop-n-preserved
loop-n-preserved g c =
    let did = c.in_ok-put_line.ensures in
    record {
      wrote = wrote_more (g.A.Lines.line c.args.lines.now) c.loop-n.n (g.K.Sink.shown c.args.sink.now) (g.K.Sink.shown c.loop-n.sink) (g.K.Sink.shown c.put_line.new.sink) c.loop-n.invariant.wrote (did.0, did.1, did.2.all);
    }
