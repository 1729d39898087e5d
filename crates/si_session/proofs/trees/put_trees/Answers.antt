-- One line stands before the last one.
use Rattle.std.proofs.Common.{refl}
use Rattle.si_session.proofs.ShortReplyLaws.{trees_sent}
use Rattle.si_session.proofs.trees.put_trees.Goals as goal

pub write_lines-requires : goal.write_lines-requires
write_lines-requires g c n less = (_, refl)

pub returns : goal.returns
returns g c = trees_sent c.args.counts c.write_lines.result (g.K.Sink.shown c.args.sink.now) (g.K.Sink.shown c.write_lines.new.sink) c.write_lines.ensures
