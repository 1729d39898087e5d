use Rattle.std.proofs.Common.{◌∙◌, subst}
use Rattle.si_steps.specs.Replies.{end_line}
use Rattle.si_io.specs.Sends.{Sends}
use Rattle.si_session.proofs.answer.HitsLines.put_last.Goals as goal

pub returns : goal.returns
returns g c =
    subst (λ n. Sends c.put_end.result (end_line n) (g.K.Sink.shown c.args.sink.now) (g.K.Sink.shown c.put_end.new.sink)) (c.from.ensures ∙ c.args.self.now.counted) c.put_end.ensures
