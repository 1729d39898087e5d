use Rattle.std.proofs.Common.{◌≡◌, Some, sym, subst}
use Rattle.slab.specs.Slab.{get}
use Rattle.si_tree.specs.declared.node.Head.TheVariants.{Var}
use Rattle.si_tree.specs.Heads.{IsChildBy}
use Rattle.si_tree.specs.KeptNodes.{node_of, heads_of, tree_of}
use Rattle.si_tree.proofs.SlotLaws.{node_read}
use Rattle.si_tree.proofs.KnownHeads.{known_among}
use Rattle.si_tree.proofs.tree.Tree.head_vars.Goals as goal

pub returns-clause-below : goal.returns-clause-below
returns-clause-below c child number by =
    let n = c.index.result.now in
    let got = subst (λ k. get c.self.inside.nodes k ≡ Some n) c.node.view_is c.index.ensures in
    let has = node_read c.self.inside.nodes.slots c.args.node n got in
    c.head_vars.ensures.below number (known_among (tree_of c.self.inside) c.args.node (node_of n) (heads_of n.content) has (c.self.invariant.heads _ _ c.index.ensures) (Var number) c.self.invariant.legal child (subst (λ t. IsChildBy t c.args.node (Var number) child) (sym c.self.view_is) by))
