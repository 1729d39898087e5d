use Rattle.std.proofs.Common.{◌≡◌, ℕ, Option, None, Some, IfNone, sym, ◌∙◌, ap, subst}
use Rattle.std.proofs.lemmas.Option.{same_Some}
use Rattle.slab.specs.Slab.{get}
use Rattle.si_flat.specs.Cells.{Term}
use Rattle.si_legal.specs.Legal.{IsLegal}
use Rattle.si_legal.specs.Trees.{Node, Tree, HasNode}
use Rattle.si_tree.specs.KeptNodes.{node_of}
use Rattle.si_tree.specs.Reading.{AtNode}
use Rattle.si_tree.proofs.SlotLaws.{node_read}
use Rattle.si_tree.proofs.tree.Tree.parent.Goals as goal

none_is_root : (tree : Tree Term) (key : ℕ) (node : Node Term) (parent : Option ℕ) → IsLegal tree → HasNode tree key node → parent ≡ node.parent → IfNone parent (key ≡ tree.root)
none_is_root tree key node None legal has e = (legal.nodes key node has).only_root (sym e)
none_is_root tree key node (Some above) legal has e = tt

root_has_none : (tree : Tree Term) (parent : Option ℕ) → IsLegal tree → AtNode tree tree.root (λ n. parent ≡ n.parent) → parent ≡ None
root_has_none tree parent legal there = there legal.root.0 legal.root.1 ∙ legal.root.2.parent

parent_is : (c : goal.After-parent) → AtNode c.args.self.now c.args.node (λ n. c.parent.result ≡ n.parent)
parent_is c node has =
    let n = c.index.result.now in
    let got = subst (λ k. get c.self.inside.nodes k ≡ Some n) c.node.view_is c.index.ensures in
    let same : node_of n ≡ node = same_Some (node_of n) node (sym (node_read c.self.inside.nodes.slots _ n got) ∙ subst (λ t. HasNode t c.args.node node) (sym c.self.view_is) has) in
    c.parent.ensures ∙ ap (λ m. m.parent) same

pub returns-clause-parent : goal.returns-clause-parent
returns-clause-parent c = parent_is c

pub returns-clause-none : goal.returns-clause-none
returns-clause-none c =
    let legal = subst IsLegal c.self.view_is c.self.invariant.legal in
    none_is_root c.args.self.now c.args.node c.requires.0 c.parent.result legal c.requires.1 (parent_is c c.requires.0 c.requires.1)

pub returns-clause-root : goal.returns-clause-root
returns-clause-root c at =
    root_has_none c.args.self.now c.parent.result (subst IsLegal c.self.view_is c.self.invariant.legal)
    (subst (λ k. AtNode c.args.self.now k (λ n. c.parent.result ≡ n.parent)) at (parent_is c))
