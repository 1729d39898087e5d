-- The first word and its number, and then the second.
use Rattle.si_io.proofs.Sends.{Sends_then}
use Rattle.si_session.proofs.reply.put_counts.Goals as goal

pub returns : goal.returns
returns g c = Sends_then _ _ _ _ _ _ c.in_ok-put_number.ensures.all c.put_number-2.ensures
