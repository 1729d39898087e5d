use Rattle.std.proofs.Common.{◌≡◌, ◌<◌, ℕ, Some, IfNone, length, slice_get, subst, arith, refl, sym}
use Rattle.std.proofs.lemmas.Option.{slice_get_read}
use Rattle.slab.specs.Slab.{get}
use Rattle.si_tree.specs.Heads.{IsChildBy}
use Rattle.si_tree.specs.KeptNodes.{node_of, content_of, heads_of, tree_of}
use Rattle.si_tree.proofs.SlotLaws.{node_read}
use Rattle.si_tree.proofs.KnownHeads.{place_known, known_child, known_among}
use Rattle.si_tree.proofs.tree.Tree.child.Goals as goal

pub returns-in_err-place-clause-none : goal.returns-in_err-place-clause-none
returns-in_err-place-clause-none c =
    let n = c.index-above.result.now in
    let got = subst (λ k. get c.self.inside.nodes k ≡ Some n) c.node.view_is c.index-above.ensures in
    let has = node_read c.self.inside.nodes.slots c.args.node n got in
    subst (λ r. IfNone r ((child : ℕ) → IsChildBy c.args.self.now c.args.node c.args.head child → ⊥)) (sym c.from_residual.ensures)
    (λ child by. c.in_err-place.ensures.none (known_among (tree_of c.self.inside) c.args.node (node_of n) (heads_of n.content) has (c.self.invariant.heads _ _ c.index-above.ensures) c.args.head c.self.invariant.legal child (subst (λ t. IsChildBy t c.args.node c.args.head child) (sym c.self.view_is) by)))

pub bounds-children-place : goal.bounds-children-place
bounds-children-place c =
    let n = c.index-above.result.now in
    subst (λ cs. c.in_ok-place.place < length cs) (sym c.children.ensures)
    (place_known (tree_of c.self.inside) (content_of n.content) (heads_of n.content) c.in_ok-place.place c.args.head (c.self.invariant.heads _ _ c.index-above.ensures) c.in_ok-place.ensures.some)

pub offset_bounds-children-place : goal.offset_bounds-children-place
offset_bounds-children-place c = omega (arith, bounds-children-place c)

pub returns-clause-some : goal.returns-clause-some
returns-clause-some c =
    let n = c.index-above.result.now in
    let got = subst (λ k. get c.self.inside.nodes k ≡ Some n) c.node.view_is c.index-above.ensures in
    let has = node_read c.self.inside.nodes.slots c.args.node n got in
    let there = slice_get_read c.children.result.now _ c.in_ok-place.place c.index-children-place.result refl (bounds-children-place c.before) c.index-children-place.is in
    subst (λ t. IsChildBy t c.args.node c.args.head c.index-children-place.result) c.self.view_is
    (known_child (tree_of c.self.inside) c.args.node (node_of n) (heads_of n.content) has (c.self.invariant.heads _ _ c.index-above.ensures) c.args.head c.in_ok-place.place c.index-children-place.result c.in_ok-place.ensures.some (subst (λ cs. slice_get cs c.in_ok-place.place ≡ Some c.index-children-place.result) c.children.ensures there))
