use Rattle.std.proofs.Common.{◌≡◌, map, take}
use Rattle.si_session.specs.Session.{around}
use Rattle.si_io.specs.Shown.{KeepsFiles}
use Rattle.si_serve.specs.Progress.{LoadsWords}
use Rattle.si_serve.proofs.serve.load_files.Given as goal

abbrev pub invariant-loop-file : goal.invariant-loop-file
invariant-loop-file g l = record {
  loaded : LoadsWords l.fn.session.setting (g.L.Library.shown l.fn.library).files l.strict (map (λ f. f.now) (take l.file-index l.files))
      (around (g.K.Sink.shown l.fn.sink) (g.L.Library.shown l.fn.library))
      l.session.state (around (g.K.Sink.shown l.sink) (g.L.Library.shown l.library));
  setting : l.session.setting ≡ l.fn.session.setting;
  kept : (g.K.Sink.shown l.sink).counts.faults ≡ (g.K.Sink.shown l.fn.sink).counts.faults;
  library : KeepsFiles (g.L.Library.shown l.fn.library) (g.L.Library.shown l.library);
}
