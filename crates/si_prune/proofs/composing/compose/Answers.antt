use Rattle.std.proofs.Common.{◌==◌, ◌++◌, ◌∷◌, [], refl, sym, ◌∙◌, subst}
use Rattle.std.specs.List.{list_any}
use Rattle.si_defs.specs.Substitutions.{IsAmong}
use Rattle.si_flat.specs.Rows.{left_sides}
use Rattle.si_tree.specs.Numbers.{rights_in}
use Rattle.si_prune.specs.Pruning.{Composes, carried_pairs}
use Rattle.si_mscg.proofs.CopyLaws.{copied}
use Rattle.si_prune.proofs.AddLaws.{IsAdding, add_begins, add_skips, add_new, add_more, composes}
use Rattle.si_prune.proofs.composing.compose.Goals as goal

pub loop-pair-init : goal.loop-pair-init
loop-pair-init c = (
  add_begins c.args.node.now c.args.child.now c.in_ok-both.both c.into_iter-pair-iterator.result (rights_in c.args.node.now) c.requires c.in_ok-both.ensures
      (c.into_iter-pair-iterator.ensures.into_iter_gives ∙ c.pairs-pair-items.ensures),
  c.in_ok-opened.ensures,
)

pub opens-requires : goal.opens-requires
opens-requires c = c.loop-pair.invariant.1

pub loop-pair-preserved-then-opens : goal.loop-pair-preserved-then-opens
loop-pair-preserved-then-opens c =
    let opened = rights_in c.args.node.now in
    let first = carried_pairs c.args.node.now c.args.child.now in (
      add_skips opened first c.args.child.now c.loop-pair.both c.in-Some.pair c.next.new.self
          (subst (IsAdding opened first c.args.child.now c.loop-pair.both) c.in-Some.ensures.steps c.loop-pair.invariant.0)
          (sym (c.opens.ensures ∙ (λ i. list_any (λ n. n == c.left.ensures i) opened)) ∙ c.if-opens.true),
      c.loop-pair.invariant.1,
    )

pub push-requires-clause-new : goal.push-requires-clause-new
push-requires-clause-new c =
    let opened = rights_in c.args.node.now in
    let first = carried_pairs c.args.node.now c.args.child.now in
    λ a.
    add_new opened first c.args.child.now c.loop-pair.both c.in-Some.pair c.next.new.self
    (subst (IsAdding opened first c.args.child.now c.loop-pair.both) c.in-Some.ensures.steps c.loop-pair.invariant.0)
    (subst (IsAmong (left_sides c.loop-pair.both)) c.left-in-loop-pair.ensures a)

pub loop-pair-preserved : goal.loop-pair-preserved
loop-pair-preserved c =
    let opened = rights_in c.args.node.now in
    let first = carried_pairs c.args.node.now c.args.child.now in (
      subst (λ l. IsAdding opened first c.args.child.now l c.next.new.self)
          (sym (c.in_ok-push.ensures.ok ∙ (λ i. c.loop-pair.both ++ (c.left-in-loop-pair.ensures i, c.right.ensures.cells i) ∷ [])))
          (add_more opened first c.args.child.now c.loop-pair.both c.in-Some.pair c.next.new.self
          (subst (IsAdding opened first c.args.child.now c.loop-pair.both) c.in-Some.ensures.steps c.loop-pair.invariant.0)
          (sym (c.opens.ensures ∙ (λ i. list_any (λ n. n == c.left.ensures i) opened)) ∙ c.if-opens.false)),
      c.loop-pair.invariant.1,
    )

pub returns : goal.returns
returns c =
    copied c.copy.result c.loop-pair.both (Composes c.args.node.now c.args.child.now) c.copy.ensures
    (composes c.args.node.now c.args.child.now c.loop-pair.both c.loop-pair.pair-iterator (rights_in c.args.node.now) c.loop-pair.invariant.0 c.in-None.ensures.steps.0 refl)
