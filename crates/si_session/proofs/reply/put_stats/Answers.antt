use Rattle.std.proofs.Common.{subst}
use Rattle.si_io.specs.Sends.{Sends}
use Rattle.si_session.proofs.ReplyTexts.{stats_is}
use Rattle.si_session.proofs.reply.put_stats.Goals as goal

pub returns : goal.returns
returns g c =
    subst (λ t. Sends c.put_three.result t (g.K.Sink.shown c.args.sink.now) (g.K.Sink.shown c.put_three.new.sink))
    (stats_is c.args.stats c.from-clauses.result c.from-symbols.result c.from-clauses.ensures c.from-symbols.ensures) c.put_three.ensures
