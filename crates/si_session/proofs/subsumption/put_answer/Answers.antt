-- The lines of the clauses are the answer.
use Rattle.si_session.proofs.MappedLaws.{maps_have, maps_reported}
use Rattle.si_session.proofs.subsumption.put_answer.Goals as goal

pub write_lines-requires : goal.write_lines-requires
write_lines-requires g c = maps_have c.args.index.now.clauses c.args.found.now c.requires

pub returns : goal.returns
returns g c =
    maps_reported c.args.index.now.clauses c.args.found.now c.requires c.write_lines.result (g.K.Sink.shown c.args.sink.now) (g.K.Sink.shown c.write_lines.new.sink) c.write_lines.ensures
