use Rattle.std.proofs.Common.{subst, ◌≡◌, ◌<◌, [], length, get_or, ◌∙◌, arith}
use Rattle.std.proofs.lemmas.List.{get_or_default}
use Rattle.si_subsume.specs.Parts.{AreChained}
use Rattle.si_subsume.proofs.ChainLaws.{next_length, next_there, walk_on, walk_end}
use Rattle.si_subsume.proofs.chains.Chains.append_part.Goals as goal

pub index-at-requires-in-loop-at : goal.index-at-requires-in-loop-at
index-at-requires-in-loop-at c =
    let self = c.self.inside in
    let labels = c.args.self.now in
    let chained = subst (AreChained self.first.items self.next.items) c.self.view_is c.self.invariant in
    omega (arith, c.loop-at-test.true, c.requires.sizes, next_length self.first.items self.next.items labels chained)

pub loop-at-smaller : goal.loop-at-smaller
loop-at-smaller c =
    let self = c.self.inside in
    let labels = c.args.self.now in
    let chained = subst (AreChained self.first.items self.next.items) c.self.view_is c.self.invariant in
    let less : c.loop-at.at < length labels = omega (arith, c.loop-at-test.true, c.requires.sizes) in
    let there = next_there self.first.items self.next.items labels chained c.args.label c.args.literals.now c.requires.sizes _ _ c.loop-at.at (record { ref_ptr = (0, 0); now = [] }) c.loop-at.invariant less in
    let step : c.index-at-in-loop-at.result.now ≡ get_or self.next.items c.loop-at.at 0 =
    c.index-at-in-loop-at.ensures ∙ get_or_default self.next.items c.loop-at.at _ 0 (omega (arith, less, next_length self.first.items self.next.items labels chained)) in
    omega (arith, there.later, step, c.loop-at-test.true)

pub loop-at-preserved : goal.loop-at-preserved
loop-at-preserved c =
    let self = c.self.inside in
    let labels = c.args.self.now in
    let chained = subst (AreChained self.first.items self.next.items) c.self.view_is c.self.invariant in
    let less : c.loop-at.at < length labels = omega (arith, c.loop-at-test.true, c.requires.sizes) in
    let there = next_there self.first.items self.next.items labels chained c.args.label c.args.literals.now c.requires.sizes _ _ c.loop-at.at (record { ref_ptr = (0, 0); now = [] }) c.loop-at.invariant less in
    walk_on self.first.items self.next.items labels chained c.args.label c.args.literals.now c.requires.sizes _ _ _ _ _ _ there less c.in_ok-push.ensures.items
    (c.index-at-in-loop-at.ensures ∙ get_or_default self.next.items c.loop-at.at _ 0 (omega (arith, less, next_length self.first.items self.next.items labels chained)))

pub returns : goal.returns
returns c =
    let self = c.self.inside in
    let labels = c.args.self.now in
    let chained = subst (AreChained self.first.items self.next.items) c.self.view_is c.self.invariant in
    walk_end self.first.items self.next.items labels chained c.args.label c.args.literals.now c.requires.sizes _ _ _ c.loop-at.invariant (omega (arith, c.loop-at-test.false, c.requires.sizes))
