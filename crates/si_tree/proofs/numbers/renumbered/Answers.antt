use Rattle.std.proofs.Common.{◌<◌, sym, ◌∙◌, ap, subst, ◌∷◌, ◌++◌, [], length}
use Rattle.si_defs.specs.Substitutions.{IsAmong}
use Rattle.si_flat.specs.Cells.{IsWhole}
use Rattle.si_flat.specs.Rows.{left_sides}
use Rattle.si_tree.specs.Numbers.{AreBelow, indicators_in, noted_number, renumbered_cells}
use Rattle.si_tree.proofs.NumberLaws.{AreRenumbering, copying_begins, copying_turns, copying_ends}
use Rattle.si_tree.proofs.numbers.renumbered.Goals as goal

pub loop-pair-init : goal.loop-pair-init
loop-pair-init c =
    copying_begins c.args.numbers.now c.args.bindings.now c.in_ok-all.all c.into_iter-pair-iterator.result c.in_ok-all.ensures (c.into_iter-pair-iterator.ensures.into_iter_gives ∙ c.pairs-pair-items.ensures)
    c.requires.whole c.requires.lefts c.requires.rights c.requires.distinct

pub renumber_cells-requires : goal.renumber_cells-requires
renumber_cells-requires c =
    let turn = copying_turns c.args.numbers.now c.args.bindings.now c.loop-pair.all c.in-Some.pair c.next.new.self (subst (AreRenumbering c.args.numbers.now c.args.bindings.now c.loop-pair.all) c.in-Some.ensures.steps c.loop-pair.invariant) in
    subst (λ cells. AreBelow (length c.args.numbers.now) (indicators_in cells)) (sym c.right.ensures.cells) turn.right

pub bounds-numbers-left : goal.bounds-numbers-left
bounds-numbers-left c =
    let turn = copying_turns c.args.numbers.now c.args.bindings.now c.loop-pair.all c.in-Some.pair c.next.new.self (subst (AreRenumbering c.args.numbers.now c.args.bindings.now c.loop-pair.all) c.in-Some.ensures.steps c.loop-pair.invariant) in
    subst (λ n. n < length c.args.numbers.now) (sym c.left.ensures) turn.left

pub push-requires-clause-new : goal.push-requires-clause-new
push-requires-clause-new c =
    let turn = copying_turns c.args.numbers.now c.args.bindings.now c.loop-pair.all c.in-Some.pair c.next.new.self (subst (AreRenumbering c.args.numbers.now c.args.bindings.now c.loop-pair.all) c.in-Some.ensures.steps c.loop-pair.invariant) in
    subst (λ n. IsAmong (left_sides c.loop-pair.all) (noted_number c.args.numbers.now n) → ⊥) (sym c.left.ensures) turn.new

pub push-requires-clause-whole : goal.push-requires-clause-whole
push-requires-clause-whole c =
    let turn = copying_turns c.args.numbers.now c.args.bindings.now c.loop-pair.all c.in-Some.pair c.next.new.self (subst (AreRenumbering c.args.numbers.now c.args.bindings.now c.loop-pair.all) c.in-Some.ensures.steps c.loop-pair.invariant) in
    subst IsWhole (ap (renumbered_cells (noted_number c.args.numbers.now)) (sym c.right.ensures.cells) ∙ sym c.in_ok-renumber_cells.ensures ∙ sym c.as_slice.ensures.value) turn.is_whole

pub loop-pair-preserved : goal.loop-pair-preserved
loop-pair-preserved c =
    let turn = copying_turns c.args.numbers.now c.args.bindings.now c.loop-pair.all c.in-Some.pair c.next.new.self (subst (AreRenumbering c.args.numbers.now c.args.bindings.now c.loop-pair.all) c.in-Some.ensures.steps c.loop-pair.invariant) in
    let cells = ap (renumbered_cells (noted_number c.args.numbers.now)) (sym c.right.ensures.cells) ∙ sym c.in_ok-renumber_cells.ensures ∙ sym c.as_slice.ensures.value in
    let left = ap (noted_number c.args.numbers.now) (sym c.left.ensures) in
    subst (λ l. AreRenumbering c.args.numbers.now c.args.bindings.now l c.next.new.self) ((λ i. c.loop-pair.all ++ (left i, cells i) ∷ []) ∙ sym c.in_ok-push.ensures.ok) turn.then

pub returns : goal.returns
returns c = copying_ends c.args.numbers.now c.args.bindings.now c.loop-pair.all c.loop-pair.pair-iterator c.in-None.ensures.steps.0 c.loop-pair.invariant
