use Rattle.std.proofs.Common.{◌≡◌, ◌≤◌, ◌-◌}
use Rattle.si_steps.specs.Settings.{setting_of}
use Rattle.si_session.specs.Session.{around}
use Rattle.si_io.specs.Shown.{KeepsFiles}
use Rattle.si_serve.specs.Lines.{held_of, limit_of}
use Rattle.si_serve.specs.Words.{asked_of}
use Rattle.si_serve.specs.Progress.{HasProgressed}
use Rattle.si_serve.proofs.serve.run.Given as goal

abbrev pub invariant-loop-taken : goal.invariant-loop-taken
invariant-loop-taken g l = record {
  stands : HasProgressed (setting_of l.limits) (g.L.Library.shown l.fn.library).files l.strict (asked_of l.matches).files l.taken (g.S.Source.shown l.fn.source) (g.S.Source.shown l.source)
      (around (g.K.Sink.shown l.fn.sink) (g.L.Library.shown l.fn.library))
      l.session.state (held_of l.pending) (around (g.K.Sink.shown l.sink) (g.L.Library.shown l.library));
  within : l.taken ≤ l.limits.session;
  setting : l.session.setting ≡ setting_of l.limits;
  limit : limit_of l.pending ≡ l.limits.line;
  sure : (g.S.Source.shown l.source).may_fail ≡ (g.S.Source.shown l.fn.source).may_fail;
  source_kept : (g.S.Source.shown l.source).counts.faults ≡ (g.S.Source.shown l.fn.source).counts.faults;
  sink_kept : (g.K.Sink.shown l.sink).counts.faults ≡ (g.K.Sink.shown l.fn.sink).counts.faults;
  library : KeepsFiles (g.L.Library.shown l.fn.library) (g.L.Library.shown l.library);
}

abbrev pub decreases-loop-taken : goal.decreases-loop-taken
decreases-loop-taken g l = l.limits.session - l.taken
