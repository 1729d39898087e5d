use Rattle.std.proofs.Common.{◌≡◌, ℕ, zero, suc, ◌<◌, ◌≤◌, ◌⊎◌, [], inl, inr, length, sym, ap, ◌∙◌, subst, arith}
use Rattle.std.specs.List.{AllByRecursion}
use Rattle.si_state.specs.Subsumption.{IsLeast}
use Rattle.si_subsume.specs.Parts.{select, AnswersParts}
use Rattle.si_subsume.specs.Search.{CanEnd}
use Rattle.si_subsume.proofs.PartLaws.{apart_size, parts_least, without_literal}
use Rattle.si_subsume.proofs.apart.least_of_parts.Goals as goal

below_or : (q n : ℕ) → (q < n) ⊎ (n ≤ q)
below_or q zero = inr (omega arith)
below_or zero (suc n) = inl (omega arith)
below_or (suc q) (suc n) = elim (below_or q n) [ inl less ↦ inl (omega (arith, less)) | inr past ↦ inr (omega (arith, past)) ]

pub of-requires : goal.of-requires
of-requires c =
    subst (λ n. AllByRecursion (λ l. l < n) c.args.labels.items) (apart_size c.args.task.now.slots c.requires.parts.owner c.args.labels.items c.args.task.now.literals.now c.requires.parts.apart) c.requires.parts.below

pub grouped-requires : goal.grouped-requires
grouped-requires c =
    apart_size c.args.task.now.slots c.requires.parts.owner c.args.labels.items c.args.task.now.literals.now c.requires.parts.apart ∙ ap length (sym c.in_ok-chains.ensures)

pub search_parts-requires-clause-sizes : goal.search_parts-requires-clause-sizes
search_parts-requires-clause-sizes c =
    apart_size c.args.task.now.slots c.requires.parts.owner c.args.labels.items c.args.task.now.literals.now c.requires.parts.apart ∙ ap length (sym c.in_ok-chains.ensures)

pub search_parts-requires-clause-numbers : goal.search_parts-requires-clause-numbers
search_parts-requires-clause-numbers c =
    omega (arith, c.in_ok-numbers.ensures.len, c.in_ok-numbers.numbers.ok.0, apart_size c.args.task.now.slots c.requires.parts.owner c.args.labels.items c.args.task.now.literals.now c.requires.parts.apart, ap length c.in_ok-chains.ensures)

pub returns : goal.returns
returns c =
    let slots = c.args.task.now.slots in
    let targets = c.args.task.now.targets.now in
    let literals = c.args.task.now.literals.now in
    let labels = c.in_ok-chains.chains in
    let numbers = c.search_parts.new.numbers.items in
    let same : labels ≡ c.args.labels.items = c.in_ok-chains.ensures in
    let size = apart_size slots c.requires.parts.owner c.args.labels.items literals c.requires.parts.apart in
    let found = subst (AnswersParts slots literals targets labels numbers) c.if-not-branch.false c.in_ok-search_parts.ensures.answers in
    let least : IsLeast (CanEnd slots targets [] literals) numbers =
    parts_least slots c.requires.parts.owner c.args.labels.items literals targets numbers c.requires.parts.apart c.requires.fixed
    (c.in_ok-search_parts.ensures.sizes ∙ ap length same) size
    (λ q. elim (below_or q (length labels)) [
      | inl less ↦ subst (λ ls. IsLeast (CanEnd slots targets [] (select ls q literals)) (select ls q numbers)) same (found q less)
      | inr past ↦ without_literal slots targets literals c.args.labels.items numbers (length literals) q c.requires.parts.below (omega (arith, past, size, ap length same))
    ]) in
    subst (IsLeast (CanEnd slots targets [] literals)) (sym (c.in_ok-list.ensures ∙ c.deref-2.ensures.value)) least
