-- Each piece stands after those before it.
use Rattle.std.proofs.Common.{rules}
use Rattle.si_io.proofs.Sends.{Sends_then, SendsPart_then, SendsPart_more}
use Rattle.si_term.proofs.Results.{on_err}
use Rattle.si_session.proofs.reply.put_shapes.Goals as goal

pub returns-in_err-put_shape : goal.returns-in_err-put_shape
returns-in_err-put_shape g c = record {
  all = search rules;
  part = on_err _ (SendsPart_then _ _ _ _ _ c.in_ok-put_separator.ensures.all (SendsPart_more _ _ _ _ c.in_err-put_shape.ensures.part));
}

pub returns-in_err-put_separator-2 : goal.returns-in_err-put_separator-2
returns-in_err-put_separator-2 g c = record {
  all = search rules;
  part = on_err _ (SendsPart_then _ _ _ _ _ c.in_ok-put_separator.ensures.all
      (SendsPart_then _ _ _ _ _ c.in_ok-put_shape.ensures.all (SendsPart_more _ _ _ _ c.in_err-put_separator-2.ensures.part)));
}

pub returns : goal.returns
returns g c = Sends_then _ _ _ _ _ _ c.in_ok-put_separator.ensures.all (Sends_then _ _ _ _ _ _ c.in_ok-put_shape.ensures.all
    (Sends_then _ _ _ _ _ _ c.in_ok-put_separator-2.ensures.all c.put_shape-2.ensures))
