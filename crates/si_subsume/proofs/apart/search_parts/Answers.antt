use Rattle.std.proofs.Common.{◌≡◌, ℕ, ◌+◌, ◌-◌, ◌<◌, ◌≤◌, ◌^◌, ◌++◌, List, [], length, map, take, drop, sym, ap, ◌∙◌, subst, arith, length-append, length-drop, drop-drop}
use Rattle.std.proofs.Math.Seq.{take-append_seam, drop-append_seam}
use Rattle.std.proofs.lemmas.List.{length-map}
use Rattle.std.specs.List.{AllByRecursion}
use Rattle.std.specs.Borrow.{Bor}
use Rattle.si_defs.specs.Substitutions.{image}
use Rattle.si_defs.proofs.ListLaws.{all_weaker}
use Rattle.si_state.specs.Subsumption.{IsLeast}
use Rattle.si_flat.specs.declared.Cell.{Cell}
use Rattle.si_flat.specs.Cells.{same_variable}
use Rattle.si_unify.specs.Solving.{Equalizes}
use Rattle.si_subsume.specs.declared.search.Choice.{Choice}
use Rattle.si_subsume.specs.Parts.{select}
use Rattle.si_subsume.specs.Search.{Slices, IsFlatLiteral, AreFlatLiterals, AnswersSearch, CanEnd, number_from_one}
use Rattle.si_subsume.proofs.ChainLaws.{next_part}
use Rattle.si_subsume.proofs.PartLaws.{images_length, part_without_map, all_selected, select_size, least_more}
use Rattle.si_subsume.proofs.apart.search_parts.Goals as goal

-- what is left begins with the part, and so many of it are taken
begins : (left : Slices) (part rest : Slices) (count : ℕ) → left ≡ part ++ rest → count ≡ length part → take count left ≡ part
begins left part rest count whole size = (λ i. take (size i) (whole i)) ∙ take-append_seam part rest

ends : (left : Slices) (part rest : Slices) (count : ℕ) → left ≡ part ++ rest → count ≡ length part → drop count left ≡ rest
ends left part rest count whole size = (λ i. drop (size i) (whole i)) ∙ drop-append_seam part rest

inside : (grouped part rest : Slices) (left count : ℕ) → drop (length grouped - left) grouped ≡ part ++ rest → left ≤ length grouped → count ≡ length part → count ≤ left
inside grouped part rest left count whole within size =
    omega (arith, ap length whole, length-append part rest, length-drop (length grouped - left) grouped, within, size)

pub part_at-part-requires : goal.part_at-part-requires
part_at-part-requires c =
    let labels = c.args.chains.now in
    let literals = c.args.task.now.literals.now in
    let whole = c.loop-label.invariant.0 ∙ next_part labels (length literals) literals c.loop-label.label c.loop-label-test.true in
    omega (arith, inside c.args.grouped.now _ _ c.loop-label.left c.part_len-count.result whole c.loop-label.invariant.1 (c.part_len-count.ensures ∙ select_size labels c.loop-label.label labels literals (sym c.requires.sizes)), c.loop-label.invariant.1)

pub search_part-requires-clause-part : goal.search_part-requires-clause-part
search_part-requires-clause-part c =
    let labels = c.args.chains.now in
    let literals = c.args.task.now.literals.now in
    let whole = c.loop-label.invariant.0 ∙ next_part labels (length literals) literals c.loop-label.label c.loop-label-test.true in
    let part_is = c.part_at-part.ensures ∙ begins _ _ _ c.part_len-count.result whole (c.part_len-count.ensures ∙ select_size labels c.loop-label.label labels literals (sym c.requires.sizes)) in
    subst (AreFlatLiterals c.args.task.now.slots) (sym part_is) (all_selected (λ (b : Bor (List Cell)). IsFlatLiteral c.args.task.now.slots b.now) labels c.loop-label.label literals c.requires.searchable.literals)

pub write-requires-clause-count : goal.write-requires-clause-count
write-requires-clause-count c =
    let labels = c.args.chains.now in
    let literals = c.args.task.now.literals.now in
    let targets = c.args.task.now.targets.now in
    let whole = c.loop-label.invariant.0 ∙ next_part labels (length literals) literals c.loop-label.label c.loop-label-test.true in
    let part_is = c.part_at-part.ensures ∙ begins _ _ _ c.part_len-count.result whole (c.part_len-count.ensures ∙ select_size labels c.loop-label.label labels literals (sym c.requires.sizes)) in
    let found = subst (AnswersSearch c.args.task.now.slots c.part_at-part.result.now targets) c.in-Some.is c.in_ok-choices.ensures.answers in
    ap length c.deref.ensures.value
    ∙ sym (length-map c.in-Some.choices.items number_from_one)
    ∙ images_length (λ l k. Equalizes (image same_variable found.least.is_one.0) l.now k.now) targets c.part_at-part.result.now (map number_from_one c.in-Some.choices.items) found.least.is_one.2
    ∙ ap length part_is
    ∙ select_size labels c.loop-label.label literals c.loop-label.numbers.items (c.requires.sizes ∙ sym c.loop-label.invariant.4)

pub write-requires-clause-small : goal.write-requires-clause-small
write-requires-clause-small c =
    let targets = c.args.task.now.targets.now in
    let found = subst (AnswersSearch c.args.task.now.slots c.part_at-part.result.now targets) c.in-Some.is c.in_ok-choices.ensures.answers in
    subst (AllByRecursion (λ (choice : Choice). choice.number < 2 ^ 32 - 1)) (sym c.deref.ensures.value)
    (all_weaker (λ choice. choice.number < length targets) (λ choice. choice.number < 2 ^ 32 - 1) c.in-Some.choices.items (λ choice below. omega (arith, below, c.requires.few)) found.inside)

pub returns-in-None-clause-answers : goal.returns-in-None-clause-answers
returns-in-None-clause-answers c =
    let labels = c.args.chains.now in
    let literals = c.args.task.now.literals.now in
    let targets = c.args.task.now.targets.now in
    let whole = c.loop-label.invariant.0 ∙ next_part labels (length literals) literals c.loop-label.label c.loop-label-test.true in
    let part_is = c.part_at-part.ensures ∙ begins _ _ _ c.part_len-count.result whole (c.part_len-count.ensures ∙ select_size labels c.loop-label.label labels literals (sym c.requires.sizes)) in
    let none = subst (AnswersSearch c.args.task.now.slots c.part_at-part.result.now targets) c.in-None.is c.in_ok-choices.ensures.answers in
    part_without_map c.args.task.now.slots labels literals targets c.loop-label.label (λ ms p. none ms (subst (λ bs. CanEnd c.args.task.now.slots targets [] bs ms) (sym part_is) p))

pub overflow_sub-left : goal.overflow_sub-left
overflow_sub-left c =
    let labels = c.args.chains.now in
    let literals = c.args.task.now.literals.now in
    let whole = c.loop-label.invariant.0 ∙ next_part labels (length literals) literals c.loop-label.label c.loop-label-test.true in
    inside c.args.grouped.now _ _ c.loop-label.left c.part_len-count.result whole c.loop-label.invariant.1 (c.part_len-count.ensures ∙ select_size labels c.loop-label.label labels literals (sym c.requires.sizes))

pub loop-label-preserved : goal.loop-label-preserved
loop-label-preserved c =
    let labels = c.args.chains.now in
    let literals = c.args.task.now.literals.now in
    let targets = c.args.task.now.targets.now in
    let grouped = c.args.grouped.now in
    let count = c.part_len-count.result in
    let whole = c.loop-label.invariant.0 ∙ next_part labels (length literals) literals c.loop-label.label c.loop-label-test.true in
    let part_is = c.part_at-part.ensures ∙ begins _ _ _ count whole (c.part_len-count.ensures ∙ select_size labels c.loop-label.label labels literals (sym c.requires.sizes)) in
    let fewer = inside grouped _ _ c.loop-label.left count whole c.loop-label.invariant.1 (c.part_len-count.ensures ∙ select_size labels c.loop-label.label labels literals (sym c.requires.sizes)) in
    let on : length grouped - (c.loop-label.left - count) ≡ length grouped - c.loop-label.left + count = omega (arith, fewer, c.loop-label.invariant.1) in
    let found = subst (AnswersSearch c.args.task.now.slots c.part_at-part.result.now targets) c.in-Some.is c.in_ok-choices.ensures.answers in
    let own : IsLeast (CanEnd c.args.task.now.slots targets [] (select labels c.loop-label.label literals)) (select labels c.loop-label.label c.write.new.numbers.items) =
    subst (IsLeast (CanEnd c.args.task.now.slots targets [] (select labels c.loop-label.label literals))) (ap (map number_from_one) (sym c.deref.ensures.value) ∙ sym c.write.ensures.own)
    (subst (λ bs. IsLeast (CanEnd c.args.task.now.slots targets [] bs) (map number_from_one c.in-Some.choices.items)) part_is found.least) in (
      ap (λ n. drop n grouped) on ∙ sym (drop-drop count (length grouped - c.loop-label.left) grouped) ∙ ends _ _ _ count whole (c.part_len-count.ensures ∙ select_size labels c.loop-label.label labels literals (sym c.requires.sizes)),
      omega (arith, c.loop-label.invariant.1),
      c.in_ok-choices.ensures.ready,
      c.in_ok-choices.ensures.unbound,
      c.write.ensures.size,
      least_more c.args.task.now.slots targets literals labels c.loop-label.numbers.items c.write.new.numbers.items c.loop-label.label c.loop-label.invariant.5 own c.write.ensures.others,
    )
