use Rattle.std.proofs.Common.{◌∙◌, subst}
use Rattle.si_harvest.specs.declared.faults.HarvestFault.{HarvestFault}
use Rattle.si_harvest.specs.Faults.{NamesWhy}
use Rattle.si_harvest.specs.Texts.{RefusesText, RefusesNext}
use Rattle.si_harvest.proofs.Errors.{err_again}
use Rattle.si_harvest.proofs.TakingTexts.{some_next, none_next, gained_same, taking_more, taking_falls, taking_ends, taking_refused}
use Rattle.si_harvest.proofs.texts.take_all.Goals as goal

pub returns-in_err-end-clause-fault : goal.returns-in_err-end-clause-fault
returns-in_err-end-clause-fault g c =
    let rules = g.T.ClauseStore.rules c.args.store.now in
    let start = g.T.ClauseStore.clauses c.args.store.now in
    let state = g.T.ClauseStore.clauses c.loop-end.store in
    let P : HarvestFault → Type 0 = λ e. NamesWhy rules e (RefusesText rules start c.args.bytes.now) in
    err_again c.from_residual.result c.in_err-end.field-0.0 P c.from_residual.ensures.1
    (taking_refused rules start c.args.bytes.now c.loop-end.at c.loop-end.loaded state c.in_err-end.field-0.0
    (subst (λ n. NamesWhy n c.in_err-end.field-0.0 (RefusesNext n c.args.bytes.now c.loop-end.at state)) c.loop-end.invariant.1 c.in_err-end.ensures.fault)
    c.loop-end.invariant.0)

pub loop-end-smaller : goal.loop-end-smaller
loop-end-smaller g c =
    taking_falls _ c.args.bytes.now c.loop-end.at c.in-Some.end _ _
    (some_next _ _ c.args.bytes.now c.loop-end.at c.in_ok-end.field-0 c.in-Some.end _ _ c.loop-end.invariant.1 c.in-Some.is c.in_ok-end.ensures.taken)

pub loop-end-preserved : goal.loop-end-preserved
loop-end-preserved g c =
    let rules = g.T.ClauseStore.rules c.args.store.now in
    let start = g.T.ClauseStore.clauses c.args.store.now in (
      taking_more rules start c.args.bytes.now c.loop-end.at c.in-Some.end c.loop-end.loaded c.take_next.new.loaded _ _
          (some_next _ rules c.args.bytes.now c.loop-end.at c.in_ok-end.field-0 c.in-Some.end _ _ c.loop-end.invariant.1 c.in-Some.is c.in_ok-end.ensures.taken)
          c.take_next.ensures.gains.counted (gained_same _ rules start c.loop-end.loaded c.take_next.new.loaded _ _ c.loop-end.invariant.1 (c.take_next.ensures.gains.gained start)) c.loop-end.invariant.0,
      c.take_next.ensures.gains.same ∙ c.loop-end.invariant.1,
    )

pub returns-clause-taken : goal.returns-clause-taken
returns-clause-taken g c =
    let rules = g.T.ClauseStore.rules c.args.store.now in
    let start = g.T.ClauseStore.clauses c.args.store.now in
    taking_ends rules start c.args.bytes.now c.loop-end.at c.loop-end.loaded c.take_next.new.loaded _ _
    (none_next c.in_ok-end.field-0 _ c.in_default.is c.in_ok-end.ensures.blanks)
    (none_next c.in_ok-end.field-0 _ c.in_default.is c.in_ok-end.ensures.ended)
    (gained_same _ rules start c.loop-end.loaded c.take_next.new.loaded _ _ c.loop-end.invariant.1 (c.take_next.ensures.gains.gained start)) c.loop-end.invariant.0
