use Rattle.std.proofs.Common.{◌∙◌}
use Rattle.si_term.specs.Meaning.{name_of}
use Rattle.si_session.proofs.Acting.{removed, unknown}
use Rattle.si_session.proofs.session.remove.Goals as goal

pub returns-in-Some : goal.returns-in-Some
returns-in-Some g c =
    let h = c.in-Some.ensures.removed in
    record {
      performed = removed c.args.index.now c.remove.new.self (name_of c.args.name) c.report.result c.from.result (g.K.Sink.shown c.args.sink.now) (g.K.Sink.shown c.report.new.sink)
          h.0 h.1 (c.from.ensures ∙ h.2) c.report.ensures;
      rules = c.in-Some.ensures.rules;
    }

pub returns : goal.returns
returns g c = record {
  performed = unknown c.args.index.now c.remove.new.self (name_of c.args.name) c.report-in-None.result (g.K.Sink.shown c.args.sink.now) (g.K.Sink.shown c.report-in-None.new.sink)
      c.in-None.ensures.unknown c.in-None.ensures.none c.report-in-None.ensures;
  rules = c.in-None.ensures.rules;
}
