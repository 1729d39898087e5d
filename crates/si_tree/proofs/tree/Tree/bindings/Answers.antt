use Rattle.std.proofs.Common.{◌≡◌, Some, sym, ◌∙◌, subst}
use Rattle.std.proofs.lemmas.Option.{same_Some}
use Rattle.slab.specs.Slab.{get}
use Rattle.si_legal.specs.Bindings.{StandForBindings}
use Rattle.si_legal.specs.Trees.{HasNode}
use Rattle.si_tree.specs.KeptNodes.{node_of}
use Rattle.si_tree.proofs.DecodingLaws.{whole_read}
use Rattle.si_tree.proofs.SlotLaws.{node_read}
use Rattle.si_tree.proofs.tree.Tree.bindings.Goals as goal

pub returns : goal.returns
returns c node has =
    let n = c.index.result.now in
    let got = subst (λ k. get c.self.inside.nodes k ≡ Some n) c.node.view_is c.index.ensures in
    let same : node_of n ≡ node = same_Some (node_of n) node (sym (node_read c.self.inside.nodes.slots _ n got) ∙ subst (λ t. HasNode t c.args.node node) (sym c.self.view_is) has) in
    subst (λ bs. StandForBindings bs node.bindings) (sym c.bindings.ensures)
    (subst (λ m. StandForBindings n.bindings m.bindings) same (whole_read n.bindings (c.self.invariant.whole _ n got)))
