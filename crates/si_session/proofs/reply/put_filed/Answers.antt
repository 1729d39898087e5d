-- The word, and then the name.
use Rattle.si_io.proofs.Sends.{Sends_then}
use Rattle.si_session.proofs.reply.put_filed.Goals as goal

pub returns : goal.returns
returns g c = Sends_then _ _ _ _ _ _ c.in_ok-put_bytes.ensures.all c.put_file.ensures
