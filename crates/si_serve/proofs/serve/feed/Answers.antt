-- Each turn goes to the next line feed, and what is left after the last one belongs to a line that
-- was begun.
use Rattle.std.proofs.Common.{◌≡◌, ◌+◌, ◌<◌, ◌∙◌, ◌++◌, length, ap, refl, arith, take_all, length-drop, length-append}
use Rattle.clap.proofs.TakesLemmas.{passed_up}
use Rattle.si_io.proofs.Fetching.{files_then}
use Rattle.si_serve.proofs.Progress.{Feeds_line, Feeds_fail, Feeds_end, counts_on, counts_passed, stop_not_ok}
use Rattle.si_serve.proofs.Splitting.{line_end}
use Rattle.si_serve.proofs.serve.feed.Goals as goal

pub overflow_add-rest : goal.overflow_add-rest
overflow_add-rest g c =
    let rest = c.loop-end.rest.now in
    let done = c.loop-end.invariant.fed.done in
    let within : c.in-Some.end < length rest = (line_end rest c.in-Some.end c.in-Some.ensures).within in
    let whole : length c.args.bytes.now ≡ length (done ++ rest) = ap length c.loop-end.invariant.fed.whole in
    omega (arith, within, whole, length-append done rest)

pub returns-in_err-act-clause-feeds : goal.returns-in_err-act-clause-feeds
returns-in_err-act-clause-feeds g c =
    let rest = c.loop-end.rest.now in
    let at = c.in-Some.end in
    let fill = c.push.ensures.held in
    let r = c.from_residual.result in
    let halt = c.in_err-act.field-0.0 in
    let was = c.loop-end.invariant in
    let did = c.in_err-act.ensures.acts in
    record {
      fed = stop_not_ok r halt _ c.from_residual.ensures.1;
      broken = passed_up r halt _ c.from_residual.ensures.1
          (Feeds_fail halt _ _ _ _ _ _ rest _ at _ _ _ _ _ _ _ _ _ _ was.fed was.setting was.library.told (was.limit ∙ c.requires) c.in-Some.ensures refl fill did.broken);
      rest = record {
        setting = did.rest.setting ∙ was.setting;
        library = files_then _ _ _ was.library did.rest.library;
        faults = counts_passed r halt _ _ _ c.from_residual.ensures.1 was.kept did.rest.faults;
      };
    }

pub loop-end-preserved : goal.loop-end-preserved
loop-end-preserved g c =
    let rest = c.loop-end.rest.now in
    let at = c.in-Some.end in
    let was = c.loop-end.invariant in
    let did = c.in_ok-act.ensures in
    record {
      fed = Feeds_line _ _ _ _ _ _ rest _ _ at _ _ _ _ _ _ _ _ _ _ _ was.fed was.setting was.library.told (was.limit ∙ c.requires)
          c.in-Some.ensures refl c.push.ensures.held did.acts.acted did.held (take_all _ _ (omega (arith, length-drop (at + 1) rest)));
      setting = did.acts.rest.setting ∙ was.setting;
      limit = did.limit ∙ c.push.ensures.limit ∙ was.limit;
      kept = did.acts.rest.faults.kept ∙ was.kept;
      library = files_then _ _ _ was.library did.acts.rest.library;
    }

pub returns-clause-feeds : goal.returns-clause-feeds
returns-clause-feeds g c =
    let was = c.loop-end.invariant in
    record {
      fed = Feeds_end _ _ _ _ c.loop-end.rest.now _ _ _ _ _ _ _ _ was.fed (was.limit ∙ c.requires) c.in_default.ensures c.push-2.ensures.held;
      broken = tt;
      rest = record { setting = was.setting; library = was.library; faults = counts_on _ _ was.kept };
    }
