use Rattle.std.proofs.Common.{length, map}
use Rattle.si_state.specs.Subsumption.{mapped_text}
use Rattle.si_session.specs.MappedClauses.{all_mapped}
use Rattle.si_session.proofs.Acting.{answered}
use Rattle.si_session.proofs.subsumption.report_mapped.Goals as goal

pub returns-in-Ok : goal.returns-in-Ok
returns-in-Ok g c =
    let ms = all_mapped c.args.index.now.clauses c.args.found.now in
    answered (map mapped_text ms) (length ms) (g.K.Sink.shown c.args.sink.now) (g.K.Sink.shown c.put_answer.new.sink) c.in-Ok.ensures.all
