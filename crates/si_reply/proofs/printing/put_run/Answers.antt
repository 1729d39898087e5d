-- The run, and then a backslash and the byte.
use Rattle.si_io.proofs.Sends.{Sends_then}
use Rattle.si_reply.proofs.printing.put_run.Goals as goal

pub returns : goal.returns
returns g c = Sends_then _ _ _ _ _ _ c.in_ok-put_bytes.ensures.all c.put_bytes-2.ensures
