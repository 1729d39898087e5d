-- What was read last is the front of the chunk, and nothing at the end of the input.
use Rattle.std.proofs.Common.{ℕ, ◌≤◌, ◌∙◌, ◌<◌, length, take, ap, subst, arith, refl, length-take}
use Rattle.std.proofs.lemmas.List.{take-append-le, length-take-le}
use Rattle.std.specs.Prelude.{IsTrue}
use Rattle.si_io.specs.Counts.{raised}
use Rattle.si_io.specs.declared.counts.SourceCounts.{SourceCounts}
use Rattle.si_io.proofs.Gives.{Gives_some, Gives_end, Gives_failed, ends_kept, ends_raised}
use Rattle.si_io.proofs.Fetching.{files_then}
use Rattle.si_serve.specs.Status.{status_of}
use Rattle.si_serve.specs.declared.status.Status.TheVariants.{Ended, SessionLimit}
use Rattle.si_serve.proofs.FileWords.{Stands_under}
use Rattle.si_serve.proofs.Endings.{causes_none, causes_source, causes_stop, Stands_more, Serves_under, Serves_as, Serves_ended, Serves_limit, Serves_cut, Serves_sink, Serves_source}
use Rattle.si_serve.proofs.serve.run.Goals as goal

pub returns-in-Err-clause-serves : goal.returns-in-Err-clause-serves
returns-in-Err-clause-serves g c =
    Serves_as _ _ _ _ _ c.status.result (status_of c.in-Err.stop) _ _ _ _ c.is_strict-strict.ensures c.status.ensures
    (Serves_under c.in-Err.stop _ _ _ _ _ _ _ _ c.in-Err.ensures.broken c.requires.start.set)

pub loop-taken-init : goal.loop-taken-init
loop-taken-init g c =
    let under = c.requires.start.set in
    record {
      stands = Stands_under _ _ _ _ _ _ _ _ _ _ c.in-Ok.ensures.loaded under c.requires.held;
      within = omega arith;
      setting = c.in-Ok.ensures.rest.setting ∙ under;
      limit = c.requires.limit;
      sure = refl;
      source_kept = refl;
      sink_kept = c.in-Ok.ensures.rest.faults.kept;
      library = c.in-Ok.ensures.rest.library;
    }

pub returns-in-Ok-close-clause-serves : goal.returns-in-Ok-close-clause-serves
returns-in-Ok-close-clause-serves g c =
    let a = g.S.Source.shown c.loop-taken.source in
    let b = g.S.Source.shown c.read.new.self in
    let some : 0 < length (take c.min-room.result c.loop-taken.chunk) = omega (arith, length-take c.min-room.result c.loop-taken.chunk) in
    Serves_as _ _ _ _ _ _ _ _ _ _ _ c.is_strict-strict.ensures refl
    (Serves_ended _ _ _ _ _ _ _ _ _ _ _ _ _ _ _ c.loop-taken.invariant.stands c.loop-taken.invariant.setting c.loop-taken.invariant.library.told c.loop-taken-test.true
    (Gives_end a b _ _ c.in-Ok-read.ensures.counts c.if-count-eq0.true some _ (ap (λ (n : ℕ). take n c.read.new.into) c.if-count-eq0.true) c.in-Ok-read.ensures.taken)
    (ends_raised a b _ _ c.in-Ok-read.ensures.counts c.if-count-eq0.true some) (c.in-Ok-read.ensures.ended c.if-count-eq0.true some) c.in-Ok-close.ensures.closed)

pub returns-in-Err-close-clause-serves : goal.returns-in-Err-close-clause-serves
returns-in-Err-close-clause-serves g c =
    let a = g.S.Source.shown c.loop-taken.source in
    let b = g.S.Source.shown c.read.new.self in
    let some : 0 < length (take c.min-room.result c.loop-taken.chunk) = omega (arith, length-take c.min-room.result c.loop-taken.chunk) in
    Serves_as _ _ _ _ _ _ (status_of c.in-Err-close.stop) _ _ _ _ c.is_strict-strict.ensures c.status-in-Err-close.ensures
    (Serves_cut c.in-Err-close.stop _ _ _ _ _ _ _ _ _ _ _ _ _ _ _ c.loop-taken.invariant.stands c.loop-taken.invariant.setting c.loop-taken.invariant.library.told c.loop-taken-test.true
    (Gives_end a b _ _ c.in-Ok-read.ensures.counts c.if-count-eq0.true some _ (ap (λ (n : ℕ). take n c.read.new.into) c.if-count-eq0.true) c.in-Ok-read.ensures.taken)
    (ends_raised a b _ _ c.in-Ok-read.ensures.counts c.if-count-eq0.true some) (c.in-Ok-read.ensures.ended c.if-count-eq0.true some) c.in-Err-close.ensures.cut)

pub returns-in-Err-feed-clause-serves : goal.returns-in-Err-feed-clause-serves
returns-in-Err-feed-clause-serves g c =
    let a = g.S.Source.shown c.loop-taken.source in
    let b = g.S.Source.shown c.read.new.self in
    let into = c.read.new.into in
    let count = c.in-Ok-read.count in
    let some : 0 < length (take c.min-room.result c.loop-taken.chunk) = omega (arith, length-take c.min-room.result c.loop-taken.chunk) in
    let within : count ≤ length into = omega (arith, c.in-Ok-read.ensures.bound, c.read.auto.into, length-take c.min-room.result c.loop-taken.chunk) in
    Serves_as _ _ _ _ _ _ (status_of c.in-Err-feed.stop) _ _ _ _ c.is_strict-strict.ensures c.status-in-Err-feed.ensures
    (Serves_sink c.in-Err-feed.stop _ _ _ _ _ _ _ count (take count into) _ _ _ (g.S.Source.shown c.read.new.self) _ _ _ _ _ c.loop-taken.invariant.stands c.loop-taken.invariant.setting c.loop-taken.invariant.library.told (Gives_some a b _ _ c.in-Ok-read.ensures.counts c.if-count-eq0.false _ some (length-take-le count into within) c.in-Ok-read.ensures.taken)
    (ap (λ (k : SourceCounts). k.calls) c.in-Ok-read.ensures.counts)
    (ends_kept a b _ _ c.in-Ok-read.ensures.counts c.if-count-eq0.false)
    (length-take-le count into within) (omega (arith, length-take c.min-room.result c.loop-taken.chunk)) (take-append-le count into _ within) c.in-Err-feed.ensures.feeds.broken)

pub loop-taken-preserved : goal.loop-taken-preserved
loop-taken-preserved g c =
    let a = g.S.Source.shown c.loop-taken.source in
    let b = g.S.Source.shown c.read.new.self in
    let into = c.read.new.into in
    let count = c.in-Ok-read.count in
    let some : 0 < length (take c.min-room.result c.loop-taken.chunk) = omega (arith, length-take c.min-room.result c.loop-taken.chunk) in
    let within : count ≤ length into = omega (arith, c.in-Ok-read.ensures.bound, c.read.auto.into, length-take c.min-room.result c.loop-taken.chunk) in
    record {
      stands = Stands_more _ _ _ _ _ _ _ count (take count into) _ _ _ _ _ _ _ _ _ _ _ c.loop-taken.invariant.stands c.loop-taken.invariant.setting c.loop-taken.invariant.library.told (Gives_some a b _ _ c.in-Ok-read.ensures.counts c.if-count-eq0.false _ some (length-take-le count into within) c.in-Ok-read.ensures.taken)
          (ends_kept a b _ _ c.in-Ok-read.ensures.counts c.if-count-eq0.false)
          (length-take-le count into within) (take-append-le count into _ within) c.in-Ok-feed.ensures.feeds.fed;
      within = omega (arith, length-take c.min-room.result c.loop-taken.chunk);
      setting = c.in-Ok-feed.ensures.feeds.rest.setting ∙ c.loop-taken.invariant.setting;
      limit = c.in-Ok-feed.ensures.limit ∙ c.loop-taken.invariant.limit;
      sure = c.in-Ok-read.ensures.same ∙ c.loop-taken.invariant.sure;
      source_kept = ap (λ (k : SourceCounts). k.faults) c.in-Ok-read.ensures.counts ∙ c.loop-taken.invariant.source_kept;
      sink_kept = c.in-Ok-feed.ensures.feeds.rest.faults.kept ∙ c.loop-taken.invariant.sink_kept;
      library = files_then _ _ _ c.loop-taken.invariant.library c.in-Ok-feed.ensures.feeds.rest.library;
    }

pub returns-in-Err-read-clause-serves : goal.returns-in-Err-read-clause-serves
returns-in-Err-read-clause-serves g c =
    let a = g.S.Source.shown c.loop-taken.source in
    let b = g.S.Source.shown c.read.new.self in
    let some : 0 < length (take c.min-room.result c.loop-taken.chunk) = omega (arith, length-take c.min-room.result c.loop-taken.chunk) in
    Serves_as _ _ _ _ _ _ _ _ _ _ _ c.is_strict-strict.ensures refl
    (Serves_source _ _ _ _ _ _ a b _ _ _ _ c.loop-taken.invariant.stands c.loop-taken-test.true (Gives_failed a b _ _ some c.in-Err-read.ensures.counts c.in-Err-read.ensures.kept)
    (ap (λ (k : SourceCounts). k.ends) c.in-Err-read.ensures.counts))

pub returns-clause-serves : goal.returns-clause-serves
returns-clause-serves g c =
    Serves_as _ _ _ _ _ _ SessionLimit _ _ _ _ c.is_strict-strict.ensures refl
    (Serves_limit _ _ _ _ c.loop-taken.taken _ _ _ _ _ _ c.loop-taken.invariant.stands (omega (arith, c.loop-taken.invariant.within, c.loop-taken-test.false)))

-- ---- the library and the causes
pub returns-in-Err-clause-library : goal.returns-in-Err-clause-library
returns-in-Err-clause-library g c = c.in-Err.ensures.rest.library

pub returns-in-Err-clause-causes : goal.returns-in-Err-clause-causes
returns-in-Err-clause-causes g c = causes_stop c.in-Err.stop c.status.result (g.S.Source.shown c.args.source.now) (g.S.Source.shown c.args.source.now) (g.K.Sink.shown c.args.sink.now) (g.K.Sink.shown c.args.sink.now) _
    c.status.ensures refl refl c.in-Err.ensures.rest.faults

pub returns-in-Ok-close-clause-library : goal.returns-in-Ok-close-clause-library
returns-in-Ok-close-clause-library g c = files_then _ _ _ c.loop-taken.invariant.library c.in-Ok-close.ensures.rest.library

pub returns-in-Ok-close-clause-causes : goal.returns-in-Ok-close-clause-causes
returns-in-Ok-close-clause-causes g c =
    let source = ap (λ (k : SourceCounts). k.faults) c.in-Ok-read.ensures.counts ∙ c.loop-taken.invariant.source_kept in
    let sink = c.in-Ok-close.ensures.rest.faults.kept ∙ c.loop-taken.invariant.sink_kept in
    causes_none Ended _ _ _ _ (λ e. cc) source sink (source, sink)

pub returns-in-Err-close-clause-library : goal.returns-in-Err-close-clause-library
returns-in-Err-close-clause-library g c = files_then _ _ _ c.loop-taken.invariant.library c.in-Err-close.ensures.rest.library

pub returns-in-Err-close-clause-causes : goal.returns-in-Err-close-clause-causes
returns-in-Err-close-clause-causes g c =
    let source = ap (λ (k : SourceCounts). k.faults) c.in-Ok-read.ensures.counts ∙ c.loop-taken.invariant.source_kept in
    causes_stop c.in-Err-close.stop c.status-in-Err-close.result _ _ _ (g.K.Sink.shown c.loop-taken.sink) _ c.status-in-Err-close.ensures source c.loop-taken.invariant.sink_kept c.in-Err-close.ensures.rest.faults

pub returns-in-Err-feed-clause-library : goal.returns-in-Err-feed-clause-library
returns-in-Err-feed-clause-library g c = files_then _ _ _ c.loop-taken.invariant.library c.in-Err-feed.ensures.feeds.rest.library

pub returns-in-Err-feed-clause-causes : goal.returns-in-Err-feed-clause-causes
returns-in-Err-feed-clause-causes g c =
    let source = ap (λ (k : SourceCounts). k.faults) c.in-Ok-read.ensures.counts ∙ c.loop-taken.invariant.source_kept in
    causes_stop c.in-Err-feed.stop c.status-in-Err-feed.result _ _ _ (g.K.Sink.shown c.loop-taken.sink) _ c.status-in-Err-feed.ensures source c.loop-taken.invariant.sink_kept c.in-Err-feed.ensures.feeds.rest.faults

pub returns-in-Err-read-clause-library : goal.returns-in-Err-read-clause-library
returns-in-Err-read-clause-library g c = c.loop-taken.invariant.library

pub returns-in-Err-read-clause-causes : goal.returns-in-Err-read-clause-causes
returns-in-Err-read-clause-causes g c =
    causes_source _ _ _ _ (ap (λ (k : SourceCounts). k.faults) c.in-Err-read.ensures.counts ∙ ap raised c.loop-taken.invariant.source_kept) c.loop-taken.invariant.sink_kept
    (subst IsTrue c.loop-taken.invariant.sure c.in-Err-read.ensures.sure)

pub returns-clause-library : goal.returns-clause-library
returns-clause-library g c = c.loop-taken.invariant.library

pub returns-clause-causes : goal.returns-clause-causes
returns-clause-causes g c =
    let source = c.loop-taken.invariant.source_kept in
    let sink = c.loop-taken.invariant.sink_kept in
    causes_none SessionLimit _ _ _ _ (λ e. cc) source sink (source, sink)
