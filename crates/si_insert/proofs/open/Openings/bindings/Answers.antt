use Rattle.std.proofs.Common.{sym, subst, ◌∙◌}
use Rattle.si_defs.specs.Substitutions.{AreDistinct}
use Rattle.si_insert.specs.Opened.{numbers}
use Rattle.si_insert.proofs.OpenPairs.{AreMet, met_next, is_new, term_there}
use Rattle.si_insert.proofs.open.Openings.bindings.Goals as goal

pub push-requires-clause-new : goal.push-requires-clause-new
push-requires-clause-new c =
    let sliced = c.as_slice-opened-items.ensures.value ∙ c.self.view_is in
    let met = subst (λ l. AreMet c.args.cells.now l c.loop-opened.bindings c.loop-opened.opened-index) (sym sliced) c.loop-opened.invariant in
    let distinct = subst (λ l. AreDistinct (numbers l)) (sym c.as_slice-opened-items.ensures.value) c.self.invariant.1 in
    is_new c.args.cells.now _ c.loop-opened.bindings c.loop-opened.opened-index _ distinct c.loop-opened-test.true c.if-opened.false met

pub loop-opened-preserved : goal.loop-opened-preserved
loop-opened-preserved c =
    let sliced = c.as_slice-opened-items.ensures.value ∙ c.self.view_is in
    let there = term_there c.args.cells.now c.sub.result.now _ c.sub.ensures.place c.sub.ensures.whole in
    met_next c.args.cells.now c.as_slice-opened-items.result.now c.args.self.now c.loop-opened.bindings c.push.new.self c.loop-opened.opened-index _ c.sub.result.now sliced c.loop-opened-test.true c.if-opened.false c.loop-opened.invariant there c.in_ok-push.ensures.ok
