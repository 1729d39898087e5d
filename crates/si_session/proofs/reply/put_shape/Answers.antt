use Rattle.std.proofs.Common.{subst}
use Rattle.si_io.specs.Sends.{Sends}
use Rattle.si_session.proofs.ReplyTexts.{predicate_is, function_is}
use Rattle.si_session.proofs.reply.put_shape.Goals as goal

pub returns-in-Predicate : goal.returns-in-Predicate
returns-in-Predicate g c =
    subst (λ t. Sends c.put_number.result t (g.K.Sink.shown c.args.sink.now) (g.K.Sink.shown c.put_number.new.sink))
    (predicate_is c.args.shape c.from.result c.in-Predicate.is c.from.ensures) c.put_number.ensures

pub returns-in-Function : goal.returns-in-Function
returns-in-Function g c =
    subst (λ t. Sends c.put_number-in-Function.result t (g.K.Sink.shown c.args.sink.now) ((g.K.Sink.shown c.put_number-in-Function.new.sink)))
    (function_is c.args.shape c.from-in-Function.result c.in-Function.is c.from-in-Function.ensures) c.put_number-in-Function.ensures
