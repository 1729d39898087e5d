use Rattle.std.proofs.Common.{◌≡◌, IfNone, None, Some, true, false, sym, ◌∙◌}
use Rattle.std.proofs.lemmas.Bool.{eq-eqb, eqb-true}
use Rattle.si_changes.specs.Leaves.{MayDropLeaf}
use Rattle.si_prune.proofs.DueLaws.{has_some, parent_there, at_root, leaf_among, with_more, with_two}
use Rattle.si_prune.proofs.removing.to_join.Goals as goal

pub unreachable-requires : goal.unreachable-requires
unreachable-requires c =
    has_some c.args.tree.now c.args.leaf c.root-root.ensures.legal c.requires
    (sym (c.parent.ensures.parent c.requires.0 c.requires.1) ∙ c.in_default.is)

pub returns-then-eq-clause-none : goal.returns-then-eq-clause-none
returns-then-eq-clause-none c =
    let below = sym (c.parent.ensures.parent c.requires.0 c.requires.1) ∙ c.in-Some.is in
    at_root c.args.tree.now c.args.leaf c.in-Some.parent c.root-root.ensures.legal c.requires below
    (eqb-true _ _ (sym c.eq.ensures ∙ c.if-eq.true) ∙ c.root-root.ensures.root)

pub children-requires : goal.children-requires
children-requires c =
    let below = sym (c.parent.ensures.parent c.requires.0 c.requires.1) ∙ c.in-Some.is in
    parent_there c.args.tree.now c.args.leaf c.in-Some.parent c.root-root.ensures.legal c.requires below

pub other_of-requires : goal.other_of-requires
other_of-requires c =
    let below = sym (c.parent.ensures.parent c.requires.0 c.requires.1) ∙ c.in-Some.is in
    leaf_among c.args.tree.now c.args.leaf c.in-Some.parent c.root-root.ensures.legal c.requires below c.children.result.now c.children.ensures

pub returns-in_err-other-clause-none : goal.returns-in_err-other-clause-none
returns-in_err-other-clause-none c =
    let below = sym (c.parent.ensures.parent c.requires.0 c.requires.1) ∙ c.in-Some.is in
    let may =
    with_more c.args.tree.now c.args.leaf c.in-Some.parent c.root-root.ensures.legal c.requires below c.children.result.now c.children.ensures
    (λ e. differ (sym (eq-eqb _ _ (e ∙ sym c.root-root.ensures.root)) ∙ sym c.eq.ensures ∙ c.if-eq.false))
    c.in_err-other.ensures.none in
    elim c.from_residual.result as (λ o. IfNone o (MayDropLeaf c.args.tree.now c.args.leaf)) [ None ↦ may | Some pair ↦ tt ] where
      differ : true ≡ false → ⊥
      differ e = cc

pub returns-clause-some : goal.returns-clause-some
returns-clause-some c =
    let below = sym (c.parent.ensures.parent c.requires.0 c.requires.1) ∙ c.in-Some.is in
    with_two c.args.tree.now c.args.leaf c.in-Some.parent c.root-root.ensures.legal c.requires below c.children.result.now c.children.ensures c.in_ok-other.other
    (λ e. differ (sym (eq-eqb _ _ (e ∙ sym c.root-root.ensures.root)) ∙ sym c.eq.ensures ∙ c.if-eq.false))
    c.in_ok-other.ensures.some where
      differ : true ≡ false → ⊥
      differ e = cc
