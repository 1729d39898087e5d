-- Each turn acts on the next word.
use Rattle.std.proofs.Common.{◌∙◌, refl, subst}
use Rattle.clap.specs.Words.{found_of}
use Rattle.clap.proofs.TakesLemmas.{passed_up}
use Rattle.si_session.specs.Session.{around}
use Rattle.si_io.proofs.Fetching.{same_files, files_then}
use Rattle.si_serve.specs.Progress.{LoadsWords}
use Rattle.si_serve.proofs.FileWords.{files_are, files_none, words_none, words_all, words_next, words_break}
use Rattle.si_serve.proofs.Progress.{counts_on, counts_passed, stop_not_ok}
use Rattle.si_serve.proofs.serve.load_files.Goals as goal

pub returns-in_default : goal.returns-in_default
returns-in_default g c =
    let now = around (g.K.Sink.shown c.args.sink.now) (g.L.Library.shown c.args.library.now) in
    record {
      loaded = subst (λ ws. LoadsWords c.args.session.now.setting (g.L.Library.shown c.args.library.now).files c.args.strict ws now c.args.session.now.state now)
          (files_none (found_of c.args.matches.now) c.in_default.ensures) (words_none _ _ _ _ now c.requires);
      broken = tt;
      rest = record { setting = refl; library = same_files _; faults = counts_on _ _ refl };
    }

pub returns-in_err-load : goal.returns-in_err-load
returns-in_err-load g c =
    let r = c.from_residual.result in
    let halt = c.in_err-load.field-0.0 in
    let was = c.loop-file.invariant in
    let did = c.in_err-load.ensures in
    record {
      loaded = stop_not_ok r halt _ c.from_residual.ensures.1;
      broken = passed_up r halt _ c.from_residual.ensures.1
          (words_break _ _ _ c.in-Some.files.now c.loop-file.file-index _ halt _ _ _ _ _ _ _ _ _ was.loaded was.setting was.library.told
          c.loop-file-test.true c.as_bytes.ensures.value (files_are (found_of c.args.matches.now) _ c.in-Some.ensures) did.broken);
      rest = record {
        setting = did.rest.setting ∙ was.setting;
        library = files_then _ _ _ was.library did.rest.library;
        faults = counts_passed r halt _ _ _ c.from_residual.ensures.1 was.kept did.rest.faults;
      };
    }

pub loop-file-preserved : goal.loop-file-preserved
loop-file-preserved g c =
    let was = c.loop-file.invariant in
    let did = c.in_ok-load.ensures in
    record {
      loaded = words_next _ _ _ c.in-Some.files.now c.loop-file.file-index _ _ _ _ _ _ _ _ _ was.loaded was.setting was.library.told
          c.loop-file-test.true c.as_bytes.ensures.value did.acted;
      setting = did.rest.setting ∙ was.setting;
      kept = did.rest.faults.kept ∙ was.kept;
      library = files_then _ _ _ was.library did.rest.library;
    }

pub returns : goal.returns
returns g c =
    let was = c.loop-file.invariant in
    record {
      loaded = words_all _ _ _ c.in-Some.files.now c.loop-file.file-index _ _ _ _ c.loop-file-test.false (files_are (found_of c.args.matches.now) _ c.in-Some.ensures) was.loaded;
      broken = tt;
      rest = record { setting = was.setting; library = was.library; faults = counts_on _ _ was.kept };
    }
