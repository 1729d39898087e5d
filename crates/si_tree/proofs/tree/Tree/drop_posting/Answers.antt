use Rattle.std.proofs.Common.{◌+◌, refl, ap, subst, arith}
use Rattle.si_tree.specs.KeptNodes.{tree_of}
use Rattle.si_tree.specs.Changes.{DropsPosting}
use Rattle.si_tree.proofs.PostingSteps.{dropped_kept, drops, written, change_written, unmerged_fits}
use Rattle.si_tree.proofs.tree.Tree.drop_posting.Goals as goal

pub overflow_add-self : goal.overflow_add-self
overflow_add-self c =
    let old = c.self.inside in
    let unmerged = old.unmerged + c.unmerged-after.result in
    let change = change_written old c.args.self.now c.leaf.inside.key c.args.leaf _ c.drop_posting.new.self c.requires.node c.requires.postings unmerged c.self.view_is c.leaf.view_is c.index_mut-node.ensures.value c.requires.has c.requires.content c.drop_posting.ensures.stays in
    let new = written old c.leaf.inside.key c.drop_posting.new.self unmerged in
    let kept = dropped_kept old new c.leaf.inside.key _ c.drop_posting.new.self c.args.posting (record {
      kept = c.self.invariant;
      change = change;
      without = c.drop_posting.ensures.dropped;
      leaves = refl;
      unmerged = ap (λ k. old.unmerged + k) c.unmerged-after.ensures;
    }) in
    omega (arith, kept.unmerged, kept.leaves, unmerged_fits (tree_of new), c.self.ranges.1.1.1.1.0.1)

pub invariant_of-self : goal.invariant_of-self
invariant_of-self c =
    let old = c.self.inside in
    let unmerged = old.unmerged + c.unmerged-after.result in
    let change = change_written old c.args.self.now c.leaf.inside.key c.args.leaf _ c.drop_posting.new.self c.requires.node c.requires.postings unmerged c.self.view_is c.leaf.view_is c.index_mut-node.ensures.value c.requires.has c.requires.content c.drop_posting.ensures.stays in
    dropped_kept old (written old c.leaf.inside.key c.drop_posting.new.self unmerged) c.leaf.inside.key _ c.drop_posting.new.self c.args.posting (record {
      kept = c.self.invariant;
      change = change;
      without = c.drop_posting.ensures.dropped;
      leaves = refl;
      unmerged = ap (λ k. old.unmerged + k) c.unmerged-after.ensures;
    })

pub returns : goal.returns
returns c =
    let old = c.self.inside in
    let unmerged = old.unmerged + c.unmerged-after.result in
    let change = change_written old c.args.self.now c.leaf.inside.key c.args.leaf _ c.drop_posting.new.self c.requires.node c.requires.postings unmerged c.self.view_is c.leaf.view_is c.index_mut-node.ensures.value c.requires.has c.requires.content c.drop_posting.ensures.stays in
    let new = tree_of (written old c.leaf.inside.key c.drop_posting.new.self unmerged) in
    subst (λ t. DropsPosting t new c.args.leaf c.args.posting) c.self.view_is
    (subst (λ k. DropsPosting (tree_of old) new k c.args.posting) c.leaf.view_is
    (drops old (written old c.leaf.inside.key c.drop_posting.new.self unmerged) c.leaf.inside.key _ c.drop_posting.new.self c.args.posting (record {
      kept = c.self.invariant;
      change = change;
      without = c.drop_posting.ensures.dropped;
      leaves = refl;
      unmerged = ap (λ k. old.unmerged + k) c.unmerged-after.ensures;
    })))
