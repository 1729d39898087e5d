use Rattle.std.proofs.Common.{◌≡◌, ◌+◌, ◌++◌, length, max, refl, sym, ◌∙◌, ap, subst, arith, map, inl}
use Rattle.std.proofs.lemmas.List.{map-append}
use Rattle.si_defs.specs.Substitutions.{IsAmong, AreDistinct}
use Rattle.si_defs.proofs.ListLaws.{get_among}
use Rattle.si_flat.specs.Rows.{left_sides}
use Rattle.si_changes.specs.Splits.{MaySplitNode}
use Rattle.si_tree.specs.declared.tree.Tree.TheInside.{Inside}
use Rattle.si_tree.specs.Decoding.{bindings_of}
use Rattle.si_tree.specs.Changes.{parts_of, HasSplitLeaf}
use Rattle.si_tree.specs.KeptNodes.{tree_of, node_in_slot, IsLeafWith}
use Rattle.si_tree.specs.Rights.{beyond_rights}
use Rattle.si_legal.specs.Generalizations.{fresh_among}
use Rattle.si_tree.proofs.RightLaws.{head_found, head_told, lefts_read}
use Rattle.si_tree.proofs.FreshLaws.{next_fits}
use Rattle.si_tree.proofs.SplitConditions.{leaf_distinct, new_headed, node_headed, new_bound, heads_apart}
use Rattle.si_tree.specs.Reading.{AtNode}
use Rattle.si_tree.proofs.SplitParts.{reserved_kept, reserved_tree, parent_known, may_put, first_left, made_split}
use Rattle.si_tree.proofs.SplitSteps.{IsSplit, has_split_leaf, split_kept, at_key, at_leaf}
use Rattle.si_tree.proofs.LeafSteps.{fewer_leaves}
use Rattle.si_tree.proofs.RoomLaws.{with_nodes}
use Rattle.slab.specs.Slab.{slab_len}
use Rattle.si_tree.proofs.tree.Tree.split_node.Goals as goal

pub unreachable-requires-in_default-head_at : goal.unreachable-requires-in_default-head_at
unreachable-requires-in_default-head_at c =
    let may = subst (λ t. MaySplitNode t c.args.node (parts_of c.args.split) (bindings_of c.args.others) c.args.posting) (sym c.self.view_is) c.requires.may in
    head_found c.args.split.rest_node c.left-first.result c.requires.whole.rest_node
    (get_among _ 0 c.left-first.result c.left-first.ensures)
    (node_headed _ _ _ _ _ c.self.invariant.legal may c.left-first.result)
    (sym c.head_at.ensures ∙ c.in_default-head_at.is)

pub unreachable-requires-in_default-head_at-2 : goal.unreachable-requires-in_default-head_at-2
unreachable-requires-in_default-head_at-2 c =
    let may = subst (λ t. MaySplitNode t c.args.node (parts_of c.args.split) (bindings_of c.args.others) c.args.posting) (sym c.self.view_is) c.requires.may in
    let n = c.left-first.result in
    let left = first_left c.args.split.rest_node n c.left-first.ensures in
    head_found c.args.split.rest_new n c.requires.whole.rest_new
    (subst (λ ns. IsAmong ns n) (lefts_read c.args.split.rest_new) (new_bound _ _ _ _ _ c.self.invariant.legal may n left.right (subst (λ bs. IsAmong bs (n, left.right)) (sym left.is) (inl refl))))
    (new_headed _ _ _ _ _ c.self.invariant.legal may n)
    (sym c.head_at-2.ensures ∙ c.in_default-head_at-2.is)

pub next_after-next-requires : goal.next_after-next-requires
next_after-next-requires c =
    let may = subst (λ t. MaySplitNode t c.args.node (parts_of c.args.split) (bindings_of c.args.others) c.args.posting) (sym c.self.view_is) c.requires.may in
    let fits = next_fits _ may.node.bindings may.new _ _ _ may.may_split may.splits in
    omega (arith, fits, ap (λ ns. length (fresh_among c.self.inside.next ns)) (lefts_read c.args.split.rest_node))

pub joined-requires : goal.joined-requires
joined-requires c =
    let may = subst (λ t. MaySplitNode t c.args.node (parts_of c.args.split) (bindings_of c.args.others) c.args.posting) (sym c.self.view_is) c.requires.may in
    subst AreDistinct (sym (map-append (λ b. b.0) c.args.split.rest_new c.args.others))
    (subst (λ ns. AreDistinct (ns ++ left_sides c.args.others)) (lefts_read c.args.split.rest_new)
    (subst (λ ns. AreDistinct (left_sides (bindings_of c.args.split.rest_new) ++ ns)) (lefts_read c.args.others)
    (leaf_distinct _ _ _ _ _ c.self.invariant.legal may)))

pub invariant_of-self : goal.invariant_of-self
invariant_of-self c = reserved_kept c.self.inside c.reserve_nodes.new.nodes _ c.self.invariant c.reserve_nodes.ensures.rest_kept

pub put_between-added-requires : goal.put_between-added-requires
put_between-added-requires c =
    let nodes = c.reserve_nodes.new.nodes in
    let old = with_nodes c.self.inside nodes in
    let same = reserved_tree c.self.inside nodes _ c.reserve_nodes.ensures.rest_kept ∙ c.self.view_is in
    let kept = reserved_kept c.self.inside nodes _ c.self.invariant c.reserve_nodes.ensures.rest_kept in
    let may = subst (λ t. MaySplitNode t c.args.node (parts_of c.args.split) (bindings_of c.args.others) c.args.posting) (sym same) c.requires.may in
    let first = c.left-first.result in
    let head = c.in-Some-head_at.head in
    let new_head = c.in-Some-head_at-2.new_head in
    let one = head_told c.args.split.rest_node first head c.requires.whole.rest_node (sym c.head_at.ensures ∙ c.in-Some-head_at.is) in
    let two = head_told c.args.split.rest_new first new_head c.requires.whole.rest_new (sym c.head_at-2.ensures ∙ c.in-Some-head_at-2.is) in
    may_put old c.args.node c.in-Some.parent _ _ _ c.in_ok-fork.fork new_head kept may
    (parent_known _ _ _ _ _ may c.parent.result c.in-Some.parent (subst (λ t. AtNode t c.args.node (λ n. c.parent.result ≡ n.parent)) (sym same) c.parent.ensures.parent) c.in-Some.is)
    c.in_ok-reserve_nodes.ensures.room c.in_ok-reserve_nodes.ensures.named c.in_ok-fork.ensures.room
    (λ a. heads_apart _ _ _ _ _ kept.legal may first head new_head one.0 two.0 one.1 one.2 two.1 two.2 (subst (λ hs. IsAmong hs new_head) c.in_ok-fork.ensures.heads a))

pub prove-unreachable-requires : goal.prove-unreachable-requires
prove-unreachable-requires c =
    let nodes = c.reserve_nodes.new.nodes in
    let more = fewer_leaves c.self.inside nodes (slab_len nodes + 1) c.self.invariant (ap (λ s. map node_in_slot s.slots) c.reserve_nodes.ensures.rest_kept) refl in
    absurd (omega (arith, more, c.if-prove.true, c.len-nodes.ensures, c.put_between-added.ensures.number))

-- ---- at the end
abbrev before : goal.After-drop-others-inside-2 → Inside
before c = with_nodes c.self.inside c.reserve_nodes.new.nodes

abbrev after : goal.After-drop-others-inside-2 → Inside
after c = made_split c.self.inside c.put_between-added.new.nodes c.next_after-next.result c.max-vars.result

same_tree : (c : goal.After-drop-others-inside-2) → tree_of (before c) ≡ c.args.self.now
same_tree c = reserved_tree c.self.inside c.reserve_nodes.new.nodes _ c.reserve_nodes.ensures.rest_kept ∙ c.self.view_is

is_split : (c : goal.After-drop-others-inside-2) → IsSplit (before c) (after c) c.args.node c.in-Some.parent c.left-first.result c.args.split c.args.others c.args.posting c.put_between-added.result.0 c.put_between-added.result.1
is_split c =
    let may = subst (λ t. MaySplitNode t c.args.node (parts_of c.args.split) (bindings_of c.args.others) c.args.posting) (sym (same_tree c)) c.requires.may in
    let left = first_left c.args.split.rest_node c.left-first.result c.left-first.ensures in
    record {
      fork = c.in_ok-fork.fork;
      leaf_node = c.in_ok-leaf.leaf;
      head = c.in-Some-head_at.head;
      new_head = c.in-Some-head_at-2.new_head;
      right = left.right;
      more = left.more;
      kept = reserved_kept c.self.inside c.reserve_nodes.new.nodes _ c.self.invariant c.reserve_nodes.ensures.rest_kept;
      whole = c.requires.whole;
      may = may;
      put = c.put_between-added.ensures;
      is_fork = c.in_ok-fork.ensures;
      is_leaf = subst (λ bs. IsLeafWith bs c.args.posting c.in_ok-leaf.leaf) c.in_ok-bindings.ensures c.in_ok-leaf.ensures.leaf;
      with_parent = parent_known _ _ _ _ _ may c.parent.result c.in-Some.parent (subst (λ t. AtNode t c.args.node (λ n. c.parent.result ≡ n.parent)) (sym (same_tree c)) c.parent.ensures.parent) c.in-Some.is;
      first_left = left.is;
      root = refl;
      next = c.next_after-next.ensures;
      vars = c.max-vars.ensures ∙ ap (max c.self.inside.vars) (c.beyond_entries.ensures ∙ ap beyond_rights (sym c.in_ok-leaf.ensures.leaf.binds));
    }

pub invariant_of-self-2 : goal.invariant_of-self-2
unfolding is_split
invariant_of-self-2 c =
    let first = c.left-first.result in
    let one = head_told c.args.split.rest_node first c.in-Some-head_at.head c.requires.whole.rest_node (sym c.head_at.ensures ∙ c.in-Some-head_at.is) in
    let two = head_told c.args.split.rest_new first c.in-Some-head_at-2.new_head c.requires.whole.rest_new (sym c.head_at-2.ensures ∙ c.in-Some-head_at-2.is) in
    split_kept _ _ _ _ _ _ _ _ _ _ (is_split c)
    (at_key _ _ _ _ _ _ _ _ _ _ (is_split c) one.0 one.1 one.2)
    (at_leaf _ _ _ _ _ _ _ _ _ _ (is_split c) two.0 two.1 two.2)
    refl refl

pub returns-clause-ok : goal.returns-clause-ok
returns-clause-ok c =
    subst (λ t. HasSplitLeaf t (tree_of (after c)) c.args.node (parts_of c.args.split) (bindings_of c.args.others) c.args.posting c.put_between-added.result.1) (same_tree c)
    (has_split_leaf _ _ _ _ _ _ _ _ _ _ (is_split c))
