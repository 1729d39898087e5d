use Rattle.std.proofs.Common.{◌-◌, ◌≤◌, refl, sym, ◌∙◌, subst, arith}
use Rattle.si_term.proofs.Results.{on_err}
use Rattle.si_tree.specs.KeptNodes.{tree_of}
use Rattle.si_tree.specs.Changes.{IsNotStored, AddsPosting}
use Rattle.si_tree.proofs.PostingSteps.{added_kept, adds, unchanged_kept, enough_unmerged, written, change_written, same_written}
use Rattle.si_tree.proofs.tree.Tree.add_posting.Goals as goal

pub invariant_of-self : goal.invariant_of-self
invariant_of-self c =
    let old = c.self.inside in
    let change = change_written old c.args.self.now c.leaf.inside.key c.args.leaf _ c.add_posting.new.self c.requires.node c.requires.postings old.unmerged c.self.view_is c.leaf.view_is c.index_mut-node.ensures.value c.requires.has c.requires.content c.add_posting.ensures.stays in
    let same = c.in_err-add_posting.ensures.err in
    unchanged_kept old (written old c.leaf.inside.key c.add_posting.new.self old.unmerged) c.leaf.inside.key _ _ c.self.invariant change same (same_written old c.leaf.inside.key _ _ old.unmerged change same) refl refl

pub returns-in_err-add_posting-clause-err : goal.returns-in_err-add_posting-clause-err
returns-in_err-add_posting-clause-err c =
    let old = c.self.inside in
    let change = change_written old c.args.self.now c.leaf.inside.key c.args.leaf _ c.add_posting.new.self c.requires.node c.requires.postings old.unmerged c.self.view_is c.leaf.view_is c.index_mut-node.ensures.value c.requires.has c.requires.content c.add_posting.ensures.stays in
    on_err _ (same_written old c.leaf.inside.key _ _ old.unmerged change c.in_err-add_posting.ensures.err ∙ c.self.view_is)

pub overflow_sub-self : goal.overflow_sub-self
overflow_sub-self c =
    subst (λ k. k ≤ c.self.inside.unmerged) (sym c.unmerged-before.ensures) (enough_unmerged c.self.inside c.leaf.inside.key _ c.self.invariant c.index_mut-node.ensures.value)

pub invariant_of-self-2 : goal.invariant_of-self-2
invariant_of-self-2 c =
    let old = c.self.inside in
    let unmerged = old.unmerged - c.unmerged-before.result in
    let change = change_written old c.args.self.now c.leaf.inside.key c.args.leaf _ c.add_posting.new.self c.requires.node c.requires.postings unmerged c.self.view_is c.leaf.view_is c.index_mut-node.ensures.value c.requires.has c.requires.content c.add_posting.ensures.stays in
    let least = enough_unmerged old c.leaf.inside.key _ c.self.invariant c.index_mut-node.ensures.value in
    added_kept old (written old c.leaf.inside.key c.add_posting.new.self unmerged) c.leaf.inside.key _ c.add_posting.new.self c.args.posting (record {
      kept = c.self.invariant;
      change = change;
      postings = c.in_ok-add_posting.ensures.ok;
      not_stored = subst (λ t. IsNotStored t c.args.posting) (sym c.self.view_is) c.requires.not_stored;
      leaves = refl;
      unmerged = omega (arith, c.unmerged-before.ensures, least);
    })

pub returns-clause-ok : goal.returns-clause-ok
returns-clause-ok c =
    let old = c.self.inside in
    let unmerged = old.unmerged - c.unmerged-before.result in
    let change = change_written old c.args.self.now c.leaf.inside.key c.args.leaf _ c.add_posting.new.self c.requires.node c.requires.postings unmerged c.self.view_is c.leaf.view_is c.index_mut-node.ensures.value c.requires.has c.requires.content c.add_posting.ensures.stays in
    let least = enough_unmerged old c.leaf.inside.key _ c.self.invariant c.index_mut-node.ensures.value in
    let new = tree_of (written old c.leaf.inside.key c.add_posting.new.self unmerged) in
    subst (λ t. AddsPosting t new c.args.leaf c.args.posting) c.self.view_is
    (subst (λ k. AddsPosting (tree_of old) new k c.args.posting) c.leaf.view_is
    (adds old (written old c.leaf.inside.key c.add_posting.new.self unmerged) c.leaf.inside.key _ c.add_posting.new.self c.args.posting (record {
      kept = c.self.invariant;
      change = change;
      postings = c.in_ok-add_posting.ensures.ok;
      not_stored = subst (λ t. IsNotStored t c.args.posting) (sym c.self.view_is) c.requires.not_stored;
      leaves = refl;
      unmerged = omega (arith, c.unmerged-before.ensures, least);
    })))
