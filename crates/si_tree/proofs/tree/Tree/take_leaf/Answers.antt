use Rattle.std.proofs.Common.{None, sym, subst}
use Rattle.si_changes.specs.Leaves.{MayDropLeaf}
use Rattle.si_tree.specs.Dropping.{Drops}
use Rattle.si_tree.specs.KeptNodes.{tree_of}
use Rattle.si_tree.proofs.DropSteps.{without_leaf, may_take_out, drop_kept, drop_done}
use Rattle.si_tree.proofs.tree.Tree.take_leaf.Goals as goal

pub take_out-requires : goal.take_out-requires
take_out-requires c =
    may_take_out c.self.inside c.args.leaf c.self.invariant (subst (λ t. MayDropLeaf t c.args.leaf) (sym c.self.view_is) c.requires)

pub invariant_of-self : goal.invariant_of-self
invariant_of-self c =
    drop_kept c.self.inside c.take_out.new.nodes c.args.leaf c.self.invariant (subst (λ t. MayDropLeaf t c.args.leaf) (sym c.self.view_is) c.requires) c.take_out.ensures

pub returns : goal.returns
returns c =
    subst (λ t. Drops t (tree_of (without_leaf c.self.inside c.take_out.new.nodes)) c.args.leaf None) c.self.view_is
    (drop_done c.self.inside c.take_out.new.nodes c.args.leaf c.self.invariant (subst (λ t. MayDropLeaf t c.args.leaf) (sym c.self.view_is) c.requires) c.take_out.ensures)
