use Rattle.std.proofs.Common.{subst, ◌≡◌, ◌∷◌, ◌++◌, ◌<◌, [], length, get_or, refl, ap, ◌∙◌, arith, length-append}
use Rattle.std.proofs.lemmas.List.{get_or_default}
use Rattle.si_subsume.specs.Parts.{AreChained}
use Rattle.si_subsume.proofs.ChainLaws.{next_length, next_there, walk_on, walk_end}
use Rattle.si_subsume.proofs.chains.Chains.part_len.Goals as goal

pub overflow_add-count : goal.overflow_add-count
overflow_add-count c =
    let self = c.self.inside in
    let labels = c.args.self.now in
    let chained = subst (AreChained self.first.items self.next.items) c.self.view_is c.self.invariant in
    omega (arith, c.loop-at.invariant.3, c.loop-at-test.true, c.len.ensures, self.next.ok.0, self.next.small)

pub index-at-requires-in-loop-at : goal.index-at-requires-in-loop-at
index-at-requires-in-loop-at c =
    let self = c.self.inside in
    let labels = c.args.self.now in
    let chained = subst (AreChained self.first.items self.next.items) c.self.view_is c.self.invariant in
    omega (arith, c.loop-at-test.true, c.len.ensures)

pub loop-at-smaller : goal.loop-at-smaller
loop-at-smaller c =
    let self = c.self.inside in
    let labels = c.args.self.now in
    let chained = subst (AreChained self.first.items self.next.items) c.self.view_is c.self.invariant in
    let less : c.loop-at.at < length labels = omega (arith, c.loop-at-test.true, c.len.ensures, self.next.ok.0, next_length self.first.items self.next.items labels chained) in
    let there = next_there self.first.items self.next.items labels chained c.args.label labels refl _ _ c.loop-at.at 0 c.loop-at.invariant.1 less in
    let step : c.index-at-in-loop-at.result.now ≡ get_or self.next.items c.loop-at.at 0 =
    c.index-at-in-loop-at.ensures ∙ get_or_default self.next.items c.loop-at.at _ 0 (omega (arith, less, next_length self.first.items self.next.items labels chained)) in
    omega (arith, there.later, step, less, next_length self.first.items self.next.items labels chained)

pub loop-at-preserved : goal.loop-at-preserved
loop-at-preserved c =
    let self = c.self.inside in
    let labels = c.args.self.now in
    let chained = subst (AreChained self.first.items self.next.items) c.self.view_is c.self.invariant in
    let less : c.loop-at.at < length labels = omega (arith, c.loop-at-test.true, c.len.ensures, self.next.ok.0, next_length self.first.items self.next.items labels chained) in
    let there = next_there self.first.items self.next.items labels chained c.args.label labels refl _ _ c.loop-at.at 0 c.loop-at.invariant.1 less in
    let step : c.index-at-in-loop-at.result.now ≡ get_or self.next.items c.loop-at.at 0 =
    c.index-at-in-loop-at.ensures ∙ get_or_default self.next.items c.loop-at.at _ 0 (omega (arith, less, next_length self.first.items self.next.items labels chained)) in
    let more = c.loop-at.invariant.0 ++ get_or labels c.loop-at.at 0 ∷ [] in (
      more,
      walk_on self.first.items self.next.items labels chained c.args.label labels refl _ _ more _ _ 0 there less refl step,
      omega (arith, length-append c.loop-at.invariant.0 (get_or labels c.loop-at.at 0 ∷ []), c.loop-at.invariant.2),
      omega (arith, there.later, step, c.loop-at.invariant.3),
    )

pub returns : goal.returns
returns c =
    let self = c.self.inside in
    let labels = c.args.self.now in
    let chained = subst (AreChained self.first.items self.next.items) c.self.view_is c.self.invariant in
    let whole = walk_end self.first.items self.next.items labels chained c.args.label labels refl _ _ _ c.loop-at.invariant.1 (omega (arith, c.loop-at-test.false, c.len.ensures, self.next.ok.0, next_length self.first.items self.next.items labels chained)) in
    omega (arith, c.loop-at.invariant.2, ap length whole)
