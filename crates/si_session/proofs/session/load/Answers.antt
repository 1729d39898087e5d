use Rattle.si_session.proofs.Loading.{reportable, load_refused, load_gained}
use Rattle.si_session.proofs.session.load.Goals as goal

pub load_refusal-requires : goal.load_refusal-requires
load_refusal-requires g c = reportable _ c.in-Err.fault _ c.in-Err.ensures.reads.fault

pub returns-in-Ok : goal.returns-in-Ok
returns-in-Ok g c =
    let limits = c.args.limits.now in
    let old = c.args.index.now in
    let new = c.expand.new.store in
    record {
      loaded = load_gained limits c.args.name.now old new c.report.result (g.K.Sink.shown c.args.sink.now) (g.K.Sink.shown c.report.new.sink)
          (g.L.Library.shown c.args.library.now) (g.L.Library.shown c.expand.new.library) c.in-Ok.gained
          c.from.result c.from-in-Ok.result c.from.ensures c.from-in-Ok.ensures
          c.in-Ok.ensures.loaded c.in-Ok.ensures.reads c.in-Ok.ensures.cause c.report.ensures;
      rules = c.in-Ok.ensures.rules;
      library = c.in-Ok.ensures.library;
    }

pub returns-in-Err : goal.returns-in-Err
returns-in-Err g c =
    let limits = c.args.limits.now in
    let old = c.args.index.now in
    let new = c.expand.new.store in
    record {
      loaded = load_refused limits c.args.name.now old new c.report-in-Err.result (g.K.Sink.shown c.args.sink.now) (g.K.Sink.shown c.report-in-Err.new.sink)
          (g.L.Library.shown c.args.library.now) (g.L.Library.shown c.expand.new.library) c.in-Err.fault c.load_refusal.result
          c.in-Err.ensures.reads c.load_refusal.ensures c.in-Err.ensures.cause c.in-Err.ensures.err c.report-in-Err.ensures;
      rules = c.in-Err.ensures.rules;
      library = c.in-Err.ensures.library;
    }
