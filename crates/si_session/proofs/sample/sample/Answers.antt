use Rattle.std.proofs.Common.{◌∙◌}
use Rattle.si_session.proofs.Loading.{reportable}
use Rattle.si_session.proofs.Sums.{sample_reported, sample_refused}
use Rattle.si_session.proofs.sample.sample.Goals as goal

pub load_refusal-requires : goal.load_refusal-requires
load_refusal-requires g c = reportable _ c.in-Err.fault _ c.in-Err.ensures.fault

pub returns-in-Ok : goal.returns-in-Ok
returns-in-Ok g c = record {
  performed = sample_reported c.args.start c.args.count c.args.index.now c.report_sum.new.index c.report_sum.result (g.K.Sink.shown c.args.sink.now) (g.K.Sink.shown c.report_sum.new.sink)
      c.take_sample.new.index.clauses c.in-Ok.gained c.in-Ok.ensures.gained c.report_sum.ensures.reports;
  rules = c.report_sum.ensures.rules ∙ c.in-Ok.ensures.rules;
}

pub returns-in-Err : goal.returns-in-Err
returns-in-Err g c = record {
  performed = sample_refused c.args.start c.args.count c.args.index.now c.take_sample.new.index c.report.result (g.K.Sink.shown c.args.sink.now) (g.K.Sink.shown c.report.new.sink)
      c.in-Err.fault c.load_refusal.result c.in-Err.ensures.fault c.load_refusal.ensures c.in-Err.ensures.err c.report.ensures;
  rules = c.in-Err.ensures.rules;
}
