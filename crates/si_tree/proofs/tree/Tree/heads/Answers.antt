use Rattle.std.proofs.Common.{◌≡◌, Some, sym, ◌∙◌, subst}
use Rattle.std.proofs.lemmas.Option.{same_Some}
use Rattle.slab.specs.Slab.{get}
use Rattle.si_legal.specs.Trees.{HasNode}
use Rattle.si_tree.specs.KeptNodes.{node_of, content_of, tree_of, AreKnown}
use Rattle.si_tree.proofs.SlotLaws.{node_read}
use Rattle.si_tree.proofs.tree.Tree.heads.Goals as goal

pub returns : goal.returns
returns c node has =
    let n = c.index.result.now in
    let got = subst (λ k. get c.self.inside.nodes k ≡ Some n) c.node.view_is c.index.ensures in
    let same : node_of n ≡ node = same_Some (node_of n) node (sym (node_read c.self.inside.nodes.slots _ n got) ∙ subst (λ t. HasNode t c.args.node node) (sym c.self.view_is) has) in
    subst (λ t. AreKnown t node.content c.heads.result.now) c.self.view_is
    (subst (λ m. AreKnown (tree_of c.self.inside) m.content c.heads.result.now) same
    (subst (AreKnown (tree_of c.self.inside) (content_of n.content)) (sym c.heads.ensures) (c.self.invariant.heads _ _ c.index.ensures)))
