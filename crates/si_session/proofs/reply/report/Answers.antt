use Rattle.std.proofs.Common.{sym, ◌∙◌, subst}
use Rattle.si_io.specs.Sends.{SendsAll, SendsPart}
use Rattle.si_session.proofs.ReplyTexts.{ended_is}
use Rattle.si_session.proofs.reply.report.Goals as goal

pub returns-in-Ok : goal.returns-in-Ok
returns-in-Ok g c = (
  subst (λ t. SendsAll (g.K.Sink.shown c.args.sink.now) t (g.K.Sink.shown c.put_at_once.new.sink)) (ended_is c.args.reply) c.in-Ok.ensures.all,
  sym c.refuses.ensures ∙ c.if-refuses.true,
)

pub returns-in-Ok-2 : goal.returns-in-Ok-2
returns-in-Ok-2 g c = (
  subst (λ t. SendsAll (g.K.Sink.shown c.args.sink.now) t (g.K.Sink.shown c.put_at_once.new.sink)) (ended_is c.args.reply) c.in-Ok-2.ensures.all,
  λ e. cc,
  sym c.refuses.ensures ∙ c.if-refuses.false,
)

pub returns-in-Err : goal.returns-in-Err
returns-in-Err g c =
    subst (λ t. SendsPart (g.K.Sink.shown c.args.sink.now) t (g.K.Sink.shown c.put_at_once.new.sink)) (ended_is c.args.reply) c.in-Err.ensures.part
