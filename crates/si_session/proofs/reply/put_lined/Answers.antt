use Rattle.std.proofs.Common.{rules}
use Rattle.si_defs.specs.Printing.{file_text}
use Rattle.si_io.proofs.Sends.{Sends_then, SendsPart_then, SendsPart_more}
use Rattle.si_term.proofs.Results.{on_err}
use Rattle.si_session.proofs.reply.put_lined.Goals as goal

pub returns-in_err-put_file : goal.returns-in_err-put_file
returns-in_err-put_file g c =
    let w = g.K.Sink.shown in
    record {
      all = search rules;
      part = on_err _ (SendsPart_then (w c.args.sink.now) (w c.put_bytes.new.sink) (w c.put_file.new.sink) c.args.word.now _ c.in_ok-put_bytes.ensures.all
          (SendsPart_more _ _ (file_text c.args.file.now) _ c.in_err-put_file.ensures.part));
    }

pub returns : goal.returns
returns g c =
    let w = g.K.Sink.shown in
    Sends_then
    c.put_number.result (w c.args.sink.now) (w c.put_bytes.new.sink) (w c.put_number.new.sink) c.args.word.now _
    c.in_ok-put_bytes.ensures.all
    (Sends_then
    c.put_number.result (w c.put_bytes.new.sink) (w c.put_file.new.sink) (w c.put_number.new.sink) (file_text c.args.file.now) _
    c.in_ok-put_file.ensures.all
    c.put_number.ensures)
