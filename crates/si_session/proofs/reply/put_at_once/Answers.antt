-- The reply is the last line, and no other stands before it.
use Rattle.std.proofs.Common.{arith}
use Rattle.si_session.proofs.ShortReplyLaws.{line_sent}
use Rattle.si_session.proofs.reply.put_at_once.Goals as goal

pub write_lines-requires : goal.write_lines-requires
write_lines-requires g c n less = absurd (omega (arith, less))

pub returns : goal.returns
returns g c = line_sent c.args.reply c.write_lines.result (g.K.Sink.shown c.args.sink.now) (g.K.Sink.shown c.write_lines.new.sink) c.write_lines.ensures
