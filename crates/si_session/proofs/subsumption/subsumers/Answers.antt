use Rattle.std.proofs.Common.{map, refl}
use Rattle.si_state.specs.Subsumption.{IsMap}
use Rattle.si_term.specs.Meaning.{literal_of}
use Rattle.si_session.specs.Session.{holding}
use Rattle.si_session.proofs.Acting.{finds_no_memory}
use Rattle.si_session.proofs.MappedLaws.{are_kept, mapped}
use Rattle.si_session.proofs.subsumption.subsumers.Goals as goal

pub report_mapped-requires : goal.report_mapped-requires
report_mapped-requires g c = are_kept (λ ls. IsMap ls (map literal_of c.args.formula.now)) c.args.index.now.clauses c.in-Ok.found c.in-Ok.ensures

pub returns-in-Ok : goal.returns-in-Ok
returns-in-Ok g c = record {
  performed = λ setting state. mapped (λ ls. IsMap ls (map literal_of c.args.formula.now)) c.args.index.now.clauses c.in-Ok.found c.in-Ok.ensures c.report_mapped.result
      (g.K.Sink.shown c.args.sink.now) (g.K.Sink.shown c.report_mapped.new.sink) c.report_mapped.ensures (holding state c.args.index.now);
  rules = refl;
}

pub returns-in-Err : goal.returns-in-Err
returns-in-Err g c = finds_no_memory _ _ _ _ _ c.report.ensures
