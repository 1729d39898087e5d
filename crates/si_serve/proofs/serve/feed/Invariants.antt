use Rattle.std.proofs.Common.{◌≡◌, length}
use Rattle.si_serve.specs.Lines.{held_of, limit_of}
use Rattle.si_session.specs.Session.{around}
use Rattle.si_io.specs.Shown.{KeepsFiles}
use Rattle.si_serve.specs.Progress.{Feeds}
use Rattle.si_serve.proofs.serve.feed.Given as goal

abbrev pub invariant-loop-end : goal.invariant-loop-end
invariant-loop-end g l = record {
  fed : Feeds l.fn.session.setting (g.L.Library.shown l.fn.library).files l.strict l.bytes l.fn.session.state (held_of l.fn.pending)
      (around (g.K.Sink.shown l.fn.sink) (g.L.Library.shown l.fn.library))
      l.rest l.session.state (held_of l.pending) (around (g.K.Sink.shown l.sink) (g.L.Library.shown l.library));
  setting : l.session.setting ≡ l.fn.session.setting;
  limit : limit_of l.pending ≡ limit_of l.fn.pending;
  kept : (g.K.Sink.shown l.sink).counts.faults ≡ (g.K.Sink.shown l.fn.sink).counts.faults;
  library : KeepsFiles (g.L.Library.shown l.fn.library) (g.L.Library.shown l.library);
}

abbrev pub decreases-loop-end : goal.decreases-loop-end
decreases-loop-end g l = length l.rest
