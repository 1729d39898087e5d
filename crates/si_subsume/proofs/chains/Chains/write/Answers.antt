use Rattle.std.proofs.Common.{subst, ◌≡◌, ℕ, zero, suc, ◌+◌, ◌<◌, List, [], ◌∷◌, length, map, get_or, slice_set, ap, ◌∙◌, arith}
use Rattle.std.proofs.lemmas.List.{get_or_default, length-map}
use Rattle.si_subsume.specs.declared.search.Choice.{Choice}
use Rattle.si_subsume.specs.Search.{number_from_one}
use Rattle.si_subsume.specs.Parts.{AreChained}
use Rattle.si_subsume.proofs.ChainLaws.{next_length, place_inside, write_on}
use Rattle.si_subsume.proofs.chains.Chains.write.Goals as goal

number_there : (choices : List Choice) (i : ℕ) (d : Choice) → i < length choices → (get_or choices i d).number + 1 ≡ get_or (map number_from_one choices) i 0
number_there [] i d less = absurd (omega (arith, less))
number_there (choice ∷ choices) zero d less = omega arith
number_there (choice ∷ choices) (suc i) d less = number_there choices i d (omega (arith, less))

pub index_mut-requires : goal.index_mut-requires
index_mut-requires c =
    let self = c.self.inside in
    let labels = c.args.self.now in
    let chained = subst (AreChained self.first.items self.next.items) c.self.view_is c.self.invariant in
    omega (arith, c.loop-i.invariant.size, place_inside self.first.items self.next.items labels chained c.args.label (map number_from_one c.args.choices.now) c.args.numbers.now.items c.loop-i.numbers.items c.loop-i.at c.loop-i.i c.loop-i.invariant (omega (arith, c.loop-i-test.true, length-map c.args.choices.now number_from_one)))

pub index-at-requires-in-loop-i : goal.index-at-requires-in-loop-i
index-at-requires-in-loop-i c =
    let self = c.self.inside in
    let labels = c.args.self.now in
    let chained = subst (AreChained self.first.items self.next.items) c.self.view_is c.self.invariant in
    omega (arith, next_length self.first.items self.next.items labels chained, place_inside self.first.items self.next.items labels chained c.args.label (map number_from_one c.args.choices.now) c.args.numbers.now.items c.loop-i.numbers.items c.loop-i.at c.loop-i.i c.loop-i.invariant (omega (arith, c.loop-i-test.true, length-map c.args.choices.now number_from_one)))

pub loop-i-preserved : goal.loop-i-preserved
loop-i-preserved c =
    let self = c.self.inside in
    let labels = c.args.self.now in
    let chained = subst (AreChained self.first.items self.next.items) c.self.view_is c.self.invariant in
    let values = map number_from_one c.args.choices.now in
    let less : c.loop-i.i < length values = omega (arith, c.loop-i-test.true, length-map c.args.choices.now number_from_one) in
    let inside = place_inside self.first.items self.next.items labels chained c.args.label values c.args.numbers.now.items c.loop-i.numbers.items c.loop-i.at c.loop-i.i c.loop-i.invariant less in
    let step : c.index-at-in-loop-i.result.now ≡ get_or self.next.items c.loop-i.at 0 =
    c.index-at-in-loop-i.ensures ∙ get_or_default self.next.items c.loop-i.at _ 0 (omega (arith, inside, next_length self.first.items self.next.items labels chained)) in
    write_on self.first.items self.next.items labels chained c.args.label values c.args.numbers.now.items c.loop-i.numbers.items _ c.loop-i.at c.loop-i.i c.index-at-in-loop-i.result.now c.loop-i.invariant less
    (ap (slice_set c.loop-i.numbers.items c.loop-i.at) (number_there c.args.choices.now c.loop-i.i _ c.loop-i-test.true))
    step
