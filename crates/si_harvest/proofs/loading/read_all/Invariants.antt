use Rattle.si_io.specs.Library.{faults_in}
use Rattle.si_io.specs.Shown.{KeepsFiles}
use Rattle.std.proofs.Common.{◌≡◌, ◌≤◌, []}
use Rattle.si_io.specs.Counts.{raised_by}
use Rattle.si_state.specs.Harvest.{MayAsk}
use Rattle.si_harvest.specs.Faults.{bounds_of}
use Rattle.si_harvest.specs.Underway.{steps_left}
use Rattle.si_harvest.specs.Loading.{IsLoading}
use Rattle.si_harvest.proofs.loading.read_all.Given as goal

abbrev pub invariant-loop-reading : goal.invariant-loop-reading
invariant-loop-reading g l = record {
  loading : IsLoading (g.L.Library.shown l.fn.library).files (bounds_of l.limits) (g.T.ClauseStore.rules l.fn.store) (g.T.ClauseStore.clauses l.fn.store) l.name l.reading (g.T.ClauseStore.clauses l.store) l.loaded;
  may : MayAsk (bounds_of l.limits) [] 0 l.name;
  library : KeepsFiles (g.L.Library.shown l.fn.library) (g.L.Library.shown l.library);
  counts : faults_in (g.L.Library.shown l.library).counts ≡ faults_in (g.L.Library.shown l.fn.library).counts;
  calls : (g.L.Library.shown l.library).counts.calls ≡ raised_by l.reading.fetches (g.L.Library.shown l.fn.library).counts.calls;
  few : l.reading.fetches ≤ l.limits.fetches;
  rules : g.T.ClauseStore.rules l.store ≡ g.T.ClauseStore.rules l.fn.store;
}

abbrev pub decreases-loop-reading : goal.decreases-loop-reading
decreases-loop-reading g l = steps_left (bounds_of l.limits) l.reading
