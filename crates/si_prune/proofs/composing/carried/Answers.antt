use Rattle.std.proofs.Common.{◌++◌, ◌∷◌, [], sym, ◌∙◌, subst}
use Rattle.si_defs.specs.Substitutions.{IsAmong}
use Rattle.si_flat.specs.Cells.{IsWhole}
use Rattle.si_flat.specs.Rows.{left_sides}
use Rattle.si_flat.proofs.RowLaws.{distinct_parts}
use Rattle.si_prune.proofs.CarryLaws.{IsCarrying, all_distinct, carry_begins, carry_turns, carry_ends}
use Rattle.si_prune.proofs.composing.carried.Goals as goal

pub in_order-requires : goal.in_order-requires
in_order-requires c =
    (distinct_parts (left_sides c.args.node.now) (left_sides c.args.child.now) (all_distinct c.args.node.now c.args.child.now c.requires)).1

pub loop-pair-init : goal.loop-pair-init
loop-pair-init c = (
  carry_begins c.args.node.now c.args.child.now c.in_ok-both.both c.into_iter-pair-iterator.result c.in_ok-draft.draft.items c.requires c.in_ok-both.ensures
      (c.into_iter-pair-iterator.ensures.into_iter_gives ∙ c.pairs-pair-items.ensures) c.in_ok-draft.ensures.items,
  c.in_ok-order.ensures,
)

pub fill-requires : goal.fill-requires
fill-requires c = c.loop-pair.invariant.1

pub set_spans-requires-clause-draft : goal.set_spans-requires-clause-draft
set_spans-requires-clause-draft c =
    (carry_turns c.args.node.now c.args.child.now c.loop-pair.both c.in-Some.pair c.next.new.self c.loop-pair.draft.items c.fill.new.draft.items c.right.result.now c.requires
    (subst (λ l. IsCarrying c.args.node.now c.args.child.now c.loop-pair.both l c.loop-pair.draft.items) c.in-Some.ensures.steps c.loop-pair.invariant.0)
    c.right.ensures.cells c.in_ok-fill.ensures).draft

pub set_spans-requires-clause-short : goal.set_spans-requires-clause-short
set_spans-requires-clause-short c =
    (carry_turns c.args.node.now c.args.child.now c.loop-pair.both c.in-Some.pair c.next.new.self c.loop-pair.draft.items c.fill.new.draft.items c.right.result.now c.requires
    (subst (λ l. IsCarrying c.args.node.now c.args.child.now c.loop-pair.both l c.loop-pair.draft.items) c.in-Some.ensures.steps c.loop-pair.invariant.0)
    c.right.ensures.cells c.in_ok-fill.ensures).short

pub push-requires-clause-new : goal.push-requires-clause-new
push-requires-clause-new c =
    let turn =
    carry_turns c.args.node.now c.args.child.now c.loop-pair.both c.in-Some.pair c.next.new.self c.loop-pair.draft.items c.fill.new.draft.items c.right.result.now c.requires
    (subst (λ l. IsCarrying c.args.node.now c.args.child.now c.loop-pair.both l c.loop-pair.draft.items) c.in-Some.ensures.steps c.loop-pair.invariant.0)
    c.right.ensures.cells c.in_ok-fill.ensures in
    λ a. turn.new (subst (IsAmong (left_sides c.loop-pair.both)) c.left.ensures a)

pub push-requires-clause-whole : goal.push-requires-clause-whole
push-requires-clause-whole c =
    let turn =
    carry_turns c.args.node.now c.args.child.now c.loop-pair.both c.in-Some.pair c.next.new.self c.loop-pair.draft.items c.fill.new.draft.items c.right.result.now c.requires
    (subst (λ l. IsCarrying c.args.node.now c.args.child.now c.loop-pair.both l c.loop-pair.draft.items) c.in-Some.ensures.steps c.loop-pair.invariant.0)
    c.right.ensures.cells c.in_ok-fill.ensures in
    subst IsWhole (sym (c.as_slice.ensures.value ∙ c.set_spans.ensures)) turn.whole

pub loop-pair-preserved : goal.loop-pair-preserved
loop-pair-preserved c =
    let turn =
    carry_turns c.args.node.now c.args.child.now c.loop-pair.both c.in-Some.pair c.next.new.self c.loop-pair.draft.items c.fill.new.draft.items c.right.result.now c.requires
    (subst (λ l. IsCarrying c.args.node.now c.args.child.now c.loop-pair.both l c.loop-pair.draft.items) c.in-Some.ensures.steps c.loop-pair.invariant.0)
    c.right.ensures.cells c.in_ok-fill.ensures in
    let cells = c.as_slice.ensures.value ∙ c.set_spans.ensures in (
      subst (λ l. IsCarrying c.args.node.now c.args.child.now l c.next.new.self c.clear.new.self.items)
          (sym (c.in_ok-push.ensures.ok ∙ (λ i. c.loop-pair.both ++ (c.left.ensures i, cells i) ∷ [])))
          (turn.then c.clear.new.self.items c.clear.ensures.items),
      c.loop-pair.invariant.1,
    )

pub returns : goal.returns
returns c =
    carry_ends c.args.node.now c.args.child.now c.loop-pair.both c.loop-pair.pair-iterator c.loop-pair.draft.items c.loop-pair.invariant.0 c.in-None.ensures.steps.0
