use Rattle.std.proofs.Common.{◌≡◌, None, [], refl, sym, subst, inr, arith}
use Rattle.si_state.specs.Harvest.{IsBarred}
use Rattle.si_harvest.specs.Faults.{NamesWhy, bounds_of}
use Rattle.si_harvest.specs.Gains.{GainsByLoad}
use Rattle.si_harvest.specs.Opened.{HasFetched}
use Rattle.si_harvest.specs.Underway.{AreFilesWithin}
use Rattle.si_harvest.proofs.Errors.{why_weaker, err_has, reads_fault}
use Rattle.si_harvest.proofs.Gaining.{gained_nothing, counts_nothing}
use Rattle.si_harvest.proofs.Fetching.{none_counted, first_fetch, further_fetch}
use Rattle.si_harvest.proofs.Moves.{begins, may_begin, never_begins, first_fetched, may_not_begin, is_over}
use Rattle.si_harvest.proofs.Safety.{within_entered}
use Rattle.si_harvest.proofs.Stepping.{steps_false, steps_error}
use Rattle.si_harvest.proofs.loading.read_all.Goals as goal

pub returns-in_err-enter-clause-reads : goal.returns-in_err-enter-clause-reads
returns-in_err-enter-clause-reads g c =
    let told = (g.L.Library.shown c.args.library.now).files in
    let bounds = bounds_of c.args.limits.now in
    let rules = g.T.ClauseStore.rules c.args.store.now in
    let start = g.T.ClauseStore.clauses c.args.store.now in
    reads_fault told bounds rules c.args.name.now c.from_residual.result c.in_err-enter.field-0.0 start _ _ _ c.enter.new.self.fetches c.from_residual.ensures.1
    (c.enter.ensures.fetches.counted _ (none_counted _ _ c.new-reading.ensures.fetches))
    (first_fetch bounds c.args.name.now c.new-reading.result c.enter.new.self c.new-reading.ensures.files c.new-reading.ensures.fetches c.enter.ensures.fetches.few c.enter.ensures.enters.once)
    (first_fetched told bounds rules start c.args.name.now c.new-reading.result c.enter.new.self.fetches c.new-reading.ensures.files c.new-reading.ensures.fetches c.enter.ensures.enters.once)
    (why_weaker rules c.in_err-enter.field-0.0 _ _
    (λ fault h. never_begins told bounds rules start c.args.name.now c.new-reading.result c.enter.new.self.fetches fault c.new-reading.ensures.files c.new-reading.ensures.fetches h)
    (c.in_err-enter.ensures.enters.unopened rules))

pub returns-in_err-enter-clause-start : goal.returns-in_err-enter-clause-start
returns-in_err-enter-clause-start g c = λ never.
    let told = (g.L.Library.shown c.args.library.now).files in
    let bounds = bounds_of c.args.limits.now in
    let rules = g.T.ClauseStore.rules c.args.store.now in
    let start = g.T.ClauseStore.clauses c.args.store.now in
    err_has c.from_residual.result c.in_err-enter.field-0.0 (λ e. NamesWhy rules e (IsBarred bounds [] 0 c.args.name.now)) c.from_residual.ensures.1
    (why_weaker rules c.in_err-enter.field-0.0 _ _
    (λ fault h. may_not_begin told bounds rules start c.args.name.now c.new-reading.result c.enter.new.self.fetches fault c.new-reading.ensures.files c.new-reading.ensures.fetches never h)
    (c.in_err-enter.ensures.enters.unopened rules))

pub loop-reading-init : goal.loop-reading-init
loop-reading-init g c =
    let told = (g.L.Library.shown c.args.library.now).files in
    let bounds = bounds_of c.args.limits.now in
    record {
      loading = record {
        underway = begins told bounds (g.T.ClauseStore.rules c.args.store.now) (g.T.ClauseStore.clauses c.args.store.now) c.args.name.now c.new-reading.result c.enter.new.self
            c.new-reading.ensures.files c.new-reading.ensures.fetches c.in_ok-enter.ensures.enters.entered;
        within = within_entered told bounds c.args.name.now (λ names. names ≡ None) c.new-reading.result.files.items c.new-reading.result.fetches c.enter.new.self c.requires.file c.in_ok-enter.ensures.enters.entered
            (subst AreFilesWithin (sym c.new-reading.ensures.files) tt);
        counted = counts_nothing _ c.args.loaded.now c.requires.nothing;
        gained = gained_nothing _ _ c.args.loaded.now c.requires.nothing;
      };
      may = may_begin told bounds (g.T.ClauseStore.rules c.args.store.now) (g.T.ClauseStore.clauses c.args.store.now) c.args.name.now c.new-reading.result c.enter.new.self
          c.new-reading.ensures.files c.new-reading.ensures.fetches c.in_ok-enter.ensures.enters.entered;
      library = c.enter.ensures.library.keeps;
      counts = c.in_ok-enter.ensures.library.cause;
      calls = c.enter.ensures.fetches.counted _ (none_counted _ _ c.new-reading.ensures.fetches);
      few = c.enter.ensures.fetches.few (omega (arith, c.new-reading.ensures.fetches));
      rules = refl;
    }

pub returns-in_err-step-clause-reads : goal.returns-in_err-step-clause-reads
returns-in_err-step-clause-reads g c =
    let told = (g.L.Library.shown c.args.library.now).files in
    let bounds = bounds_of c.args.limits.now in
    let rules = g.T.ClauseStore.rules c.args.store.now in
    let start = g.T.ClauseStore.clauses c.args.store.now in
    let invariant = c.loop-reading.invariant in
    let ended = steps_error _ told bounds _ rules c.loop-reading.reading c.step.new.self (g.T.ClauseStore.clauses c.loop-reading.store) (g.T.ClauseStore.clauses c.step.new.store) c.in_err-step.field-0.0 invariant.library.told invariant.rules c.in_err-step.ensures.stepped
    start c.args.name.now invariant.loading.underway in
    reads_fault told bounds rules c.args.name.now c.from_residual-in_err-step.result c.in_err-step.field-0.0 start _ _ _ c.step.new.self.fetches c.from_residual-in_err-step.ensures.1
    (c.step.ensures.fetches.counted _ invariant.calls)
    (further_fetch bounds c.args.name.now _ invariant.may (c.step.ensures.fetches.few invariant.few))
    (inr ended.1) ended.0

pub returns-clause-reads : goal.returns-clause-reads
returns-clause-reads g c =
    let told = (g.L.Library.shown c.args.library.now).files in
    let bounds = bounds_of c.args.limits.now in
    let rules = g.T.ClauseStore.rules c.args.store.now in
    let start = g.T.ClauseStore.clauses c.args.store.now in
    let over = steps_false ((g.L.Library.shown c.loop-reading.library).files) bounds (g.T.ClauseStore.rules c.loop-reading.store) c.loop-reading.reading c.step.new.self
    (g.T.ClauseStore.clauses c.loop-reading.store) (g.T.ClauseStore.clauses c.step.new.store) c.in_ok-step.field-0 c.if-branch.false c.in_ok-step.ensures.stepped in
    let invariant = c.loop-reading.invariant in
    record {
      made = c.step.new.self.fetches;
      counted = c.step.ensures.fetches.counted _ invariant.calls;
      may = further_fetch bounds c.args.name.now _ invariant.may (c.step.ensures.fetches.few invariant.few);
      first = inr (subst (λ n. HasFetched told bounds rules start c.args.name.now n) (sym over.2) invariant.loading.underway.fetched);
      right = subst (λ n. GainsByLoad told bounds rules start c.args.name.now n (g.T.ClauseStore.clauses c.step.new.store)) (sym over.2)
          (subst (λ s. GainsByLoad told bounds rules start c.args.name.now c.loop-reading.reading.fetches s) (sym over.1)
          (is_over told bounds rules start c.args.name.now c.loop-reading.reading (g.T.ClauseStore.clauses c.loop-reading.store) over.0 invariant.loading.underway));
      fault = tt;
    }

pub returns-in_err-step-clause-start : goal.returns-in_err-step-clause-start
returns-in_err-step-clause-start g c = λ never. absurd (never c.loop-reading.invariant.may)

pub returns-clause-start : goal.returns-clause-start
returns-clause-start g c = λ never. absurd (never c.loop-reading.invariant.may)
