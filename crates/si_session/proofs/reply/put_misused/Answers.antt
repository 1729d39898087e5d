use Rattle.si_defs.specs.Printing.{symbol_text}
use Rattle.std.proofs.Common.{rules}
use Rattle.si_io.proofs.Sends.{Sends_then, SendsPart_then, SendsPart_more}
use Rattle.si_term.proofs.Results.{on_err}
use Rattle.si_term.specs.Terms.{symbol_of}
use Rattle.si_session.proofs.reply.put_misused.Goals as goal

pub returns-in_err-put_symbol : goal.returns-in_err-put_symbol
returns-in_err-put_symbol g c = record {
  all = search rules;
  part = on_err _ (SendsPart_then _ _ _ _ _ c.in_ok-put_bytes.ensures.all (SendsPart_more _ _ _ _ c.in_err-put_symbol.ensures.part));
}

pub returns : goal.returns
returns g c =
    let w = g.K.Sink.shown in
    Sends_then
    c.put_shapes.result (w c.args.sink.now) (w c.put_bytes.new.sink) (w c.put_shapes.new.sink) c.args.word.now _
    c.in_ok-put_bytes.ensures.all
    (Sends_then
    c.put_shapes.result (w c.put_bytes.new.sink) (w c.put_symbol.new.sink) (w c.put_shapes.new.sink) (symbol_text (symbol_of c.args.symbol.now)) _
    c.in_ok-put_symbol.ensures.all
    c.put_shapes.ensures)
