-- The lines of the hits are the answer.
use Rattle.si_session.proofs.Answering.{hits_have, answer_reported}
use Rattle.si_session.proofs.answer.report_answer.Goals as goal

pub write_lines-requires : goal.write_lines-requires
write_lines-requires g c = hits_have c.args.found.now c.requires.inside c.requires.solved

pub returns : goal.returns
returns g c = answer_reported c.args.found.now c.write_lines.result (g.K.Sink.shown c.args.sink.now) (g.K.Sink.shown c.write_lines.new.sink) c.write_lines.ensures
