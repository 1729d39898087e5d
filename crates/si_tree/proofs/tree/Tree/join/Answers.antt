use Rattle.std.proofs.Common.{Some, sym, subst}
use Rattle.si_tree.specs.Dropping.{Drops, MayJoinBy}
use Rattle.si_tree.specs.KeptNodes.{tree_of}
use Rattle.si_tree.proofs.DropSteps.{without_leaf}
use Rattle.si_tree.proofs.JoinSteps.{may_take_both, some_counted, join_kept, join_done}
use Rattle.si_tree.proofs.tree.Tree.join.Goals as goal

pub take_both-requires : goal.take_both-requires
take_both-requires c =
    may_take_both c.self.inside c.args.leaf c.args.bindings c.self.invariant (subst (λ t. MayJoinBy t c.args.leaf c.args.bindings) (sym c.self.view_is) c.requires)

pub overflow_sub-self : goal.overflow_sub-self
overflow_sub-self c =
    (some_counted c.self.inside c.args.leaf c.args.bindings c.self.invariant (subst (λ t. MayJoinBy t c.args.leaf c.args.bindings) (sym c.self.view_is) c.requires)).0

pub overflow_sub-self-2 : goal.overflow_sub-self-2
overflow_sub-self-2 c =
    (some_counted c.self.inside c.args.leaf c.args.bindings c.self.invariant (subst (λ t. MayJoinBy t c.args.leaf c.args.bindings) (sym c.self.view_is) c.requires)).1

pub invariant_of-self : goal.invariant_of-self
invariant_of-self c =
    let may = subst (λ t. MayJoinBy t c.args.leaf c.args.bindings) (sym c.self.view_is) c.requires in
    join_kept c.self.inside c.args.leaf c.args.bindings c.self.invariant may c.take_both.new.nodes (c.take_both.ensures (may_take_both c.self.inside c.args.leaf c.args.bindings c.self.invariant may))

pub returns : goal.returns
returns c =
    let may = subst (λ t. MayJoinBy t c.args.leaf c.args.bindings) (sym c.self.view_is) c.requires in
    subst (λ t. Drops t (tree_of (without_leaf c.self.inside c.take_both.new.nodes)) c.args.leaf (Some c.args.bindings)) c.self.view_is
    (join_done c.self.inside c.args.leaf c.args.bindings c.self.invariant may c.take_both.new.nodes (c.take_both.ensures (may_take_both c.self.inside c.args.leaf c.args.bindings c.self.invariant may)))
