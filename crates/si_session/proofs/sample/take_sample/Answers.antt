use Rattle.std.proofs.Common.{sym, subst}
use Rattle.std.proofs.lemmas.Result.{IfOk-weaker}
use Rattle.si_defs.specs.Generator.{IsSample}
use Rattle.si_state.specs.Harvest.{AreClauses}
use Rattle.si_session.proofs.Sums.{sample_gained}
use Rattle.si_session.proofs.sample.take_sample.Goals as goal

pub returns-clause-gained : goal.returns-clause-gained
returns-clause-gained c =
    let old = c.args.index.now in
    let text = c.as_slice.result.now in
    let drawn = c.in_ok-text.ensures.clauses in
    IfOk-weaker c.take_text.result _ _
    (λ gained h.
    sample_gained old.rules c.args.start c.args.count old.clauses c.take_text.new.store.clauses drawn.0 text gained
    (subst (IsSample c.args.start c.args.count) (sym c.as_slice.ensures.value) c.in_ok-text.ensures.drawn)
    (subst (AreClauses drawn.0) (sym c.as_slice.ensures.value) drawn.1) h)
    c.take_text.ensures.loaded
