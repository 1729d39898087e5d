use Rattle.std.proofs.Common.{◌≡◌, ◌+◌, ℕ, List, max, Some, refl, sym, ◌∙◌, ap, subst, arith}
use Rattle.std.specs.Prelude.{is_some}
use Rattle.slab.specs.Slab.{Slab, get, ContainsKey, Updates}
use Rattle.std.proofs.lemmas.Option.{same_Some}
use Rattle.si_term.proofs.Results.{on_err}
use Rattle.si_defs.specs.Substitutions.{IsAmong}
use Rattle.si_legal.specs.Trees.{HasNode}
use Rattle.si_changes.specs.Leaves.{MayAddLeaf}
use Rattle.si_tree.specs.Decoding.{bindings_of}
use Rattle.si_flat.specs.Rows.{CellPair}
use Rattle.si_legal.specs.declared.Posting.{Posting}
use Rattle.si_tree.specs.Nodes.{TreeNode}
use Rattle.si_tree.specs.KeptNodes.{tree_of, moved_below, IsLeafWith}
use Rattle.si_tree.specs.Changes.{HasNewLeaf}
use Rattle.si_tree.specs.Rights.{head_in}
use Rattle.si_tree.specs.Reading.{AtNode, split_of}
use Rattle.si_tree.proofs.RightLaws.{head_found, head_told, lefts_read}
use Rattle.si_tree.proofs.BelowLaws.{distinct_heads}
use Rattle.si_tree.proofs.RoomLaws.{with_nodes, room_tree, room_kept, same_slots}
use Rattle.si_tree.proofs.LeafSteps.{split_known, headed, split_bound, links_written, written_leaf, leaf_added, leaf_head, has_new_leaf, fewer_leaves, parent_made, parent_between, splits, fresh_head}
use Rattle.si_tree.proofs.tree.Tree.add_leaf.Goals as goal

-- the leaf, as it was asked for
leaf_put : (made between : Slab TreeNode) (key parent : ℕ) (bindings : List CellPair) (p : Posting) (l : TreeNode) → IsLeafWith bindings p l → l.parent ≡ Some parent → Updates made between key (Some l) → Updates made between key (Some (moved_below l parent bindings))
leaf_put made between key parent bindings p l leaf below put =
    subst (λ n. Updates made between key (Some n)) (λ i. record { parent = below i; bindings = leaf.binds i; content = l.content }) put

pub unreachable-requires : goal.unreachable-requires
unreachable-requires c = c.in_default.not-Some c.requires.may.split (split_known _ _ _ _ c.requires.may _ c.split.ensures)

pub unreachable-requires-in_default-head_at : goal.unreachable-requires-in_default-head_at
unreachable-requires-in_default-head_at c =
    let cells = c.args.bindings in
    let may = subst (λ t. MayAddLeaf t c.args.parent (bindings_of cells) c.args.posting) (sym c.self.view_is) c.requires.may in
    let is : c.in-Some.split ≡ may.split = same_Some _ _ (sym c.in-Some.is ∙ split_known _ _ _ _ may _ (subst (λ t. AtNode t c.args.parent (λ n. c.split.result ≡ split_of n.content)) (sym c.self.view_is) c.split.ensures)) in
    head_found cells may.split c.requires.whole
    (subst (λ ns. IsAmong ns may.split) (lefts_read cells) (split_bound _ _ _ _ c.self.invariant.legal may))
    (headed _ _ _ _ c.self.invariant.legal may)
    (sym (ap (head_in cells) is) ∙ sym c.head_at.ensures ∙ c.in_default-head_at.is)

pub make_room-requires : goal.make_room-requires
make_room-requires c =
    let has = subst (λ t. HasNode t c.args.parent c.requires.may.node) (sym c.self.view_is) c.requires.may.reached.1 in
    let found = parent_made c.self.inside c.self.inside.nodes c.args.parent c.requires.may.node refl has in
    let content = ap (λ n. n.content) found.2 ∙ c.requires.may.inner_node in
    record {
      node = found.0;
      has = subst (λ k. get c.self.inside.nodes k ≡ Some found.0) (sym c.parent.view_is) found.1;
      inner_node = (c.requires.may.split, c.requires.may.children, content);
      distinct = distinct_heads c.self.inside c.self.invariant c.args.parent found.0 c.requires.may.split c.requires.may.children found.1 content;
    }

pub invariant_of-self : goal.invariant_of-self
invariant_of-self c = room_kept c.self.inside c.make_room.new.nodes _ c.self.invariant c.make_room.ensures.same

pub returns-in_err-make_room-clause-err : goal.returns-in_err-make_room-clause-err
returns-in_err-make_room-clause-err c = on_err _ (room_tree c.self.inside c.make_room.new.nodes _ c.make_room.ensures.same ∙ c.self.view_is)

pub overflow_cast-leaf : goal.overflow_cast-leaf
overflow_cast-leaf c = omega (arith, c.insert_reserved-key.ensures.key_in_range, c.insert_reserved-key.ensures.capacity, c.in_ok-make_room.ensures.room.named)

pub prove-unreachable-requires : goal.prove-unreachable-requires
prove-unreachable-requires c =
    let more = fewer_leaves c.self.inside c.make_room.new.nodes c.len-nodes.result c.self.invariant (same_slots c.self.inside.nodes c.make_room.new.nodes _ c.make_room.ensures.same) (c.len-nodes.ensures ∙ c.insert_reserved-key.ensures.len) in
    absurd (omega (arith, more, c.if-prove.true))

pub index_mut-node-requires : goal.index_mut-node-requires
index_mut-node-requires c =
    let made = c.make_room.new.nodes in
    let has = subst (λ t. HasNode t c.args.parent c.requires.may.node) (sym c.self.view_is) c.requires.may.reached.1 in
    let found = parent_made c.self.inside made c.args.parent c.requires.may.node (same_slots c.self.inside.nodes made _ c.make_room.ensures.same) has in
    subst (ContainsKey c.insert_reserved-key.new.self) (sym c.parent.view_is)
    (ap is_some (parent_between made c.insert_reserved-key.new.self c.args.parent c.insert_reserved-key.result _ found.0 c.insert_reserved-key.ensures.was_vacant c.insert_reserved-key.ensures.updates found.1))

pub push_child-requires-clause-room : goal.push_child-requires-clause-room
push_child-requires-clause-room c =
    let made = c.make_room.new.nodes in
    let between = c.insert_reserved-key.new.self in
    let n = c.index_mut-node.result.now in
    let has = subst (λ t. HasNode t c.args.parent c.requires.may.node) (sym c.self.view_is) c.requires.may.reached.1 in
    let found = parent_made c.self.inside made c.args.parent c.requires.may.node (same_slots c.self.inside.nodes made _ c.make_room.ensures.same) has in
    let there = parent_between made between c.args.parent c.insert_reserved-key.result _ found.0 c.insert_reserved-key.ensures.was_vacant c.insert_reserved-key.ensures.updates found.1 in
    let same : found.0 ≡ n = same_Some found.0 n (sym there ∙ subst (λ k. get between k ≡ Some n) c.parent.view_is c.index_mut-node.ensures.value) in
    c.in_ok-make_room.ensures.room.child n (subst (λ k. get made k ≡ Some n) (sym c.parent.view_is) (found.1 ∙ ap Some same))

pub push_child-requires-clause-new : goal.push_child-requires-clause-new
push_child-requires-clause-new c =
    let old = c.self.inside in
    let made = c.make_room.new.nodes in
    let between = c.insert_reserved-key.new.self in
    let n = c.index_mut-node.result.now in
    let same = room_tree old made _ c.make_room.ensures.same ∙ c.self.view_is in
    let may = subst (λ t. MayAddLeaf t c.args.parent (bindings_of c.args.bindings) c.args.posting) (sym same) c.requires.may in
    let found = parent_made (with_nodes old made) made c.args.parent may.node refl may.reached.1 in
    let there = parent_between made between c.args.parent c.insert_reserved-key.result _ found.0 c.insert_reserved-key.ensures.was_vacant c.insert_reserved-key.ensures.updates found.1 in
    let is : found.0 ≡ n = same_Some found.0 n (sym there ∙ subst (λ k. get between k ≡ Some n) c.parent.view_is c.index_mut-node.ensures.value) in
    let split : c.in-Some.split ≡ may.split = same_Some _ _ (sym c.in-Some.is ∙ split_known _ _ _ _ may _ (subst (λ t. AtNode t c.args.parent (λ m. c.split.result ≡ split_of m.content)) (sym same) c.split.ensures)) in
    fresh_head (with_nodes old made) c.args.parent n c.args.bindings c.args.posting c.in-Some-head_at.head (room_kept old made _ c.self.invariant c.make_room.ensures.same) may (found.1 ∙ ap Some is) c.requires.whole
    (sym (ap (head_in c.args.bindings) split) ∙ sym c.head_at.ensures ∙ c.in-Some-head_at.is)

pub overflow_add-self : goal.overflow_add-self
overflow_add-self c =
    let more = fewer_leaves c.self.inside c.make_room.new.nodes c.len-nodes.result c.self.invariant (same_slots c.self.inside.nodes c.make_room.new.nodes _ c.make_room.ensures.same) (c.len-nodes.ensures ∙ c.insert_reserved-key.ensures.len) in
    omega (arith, more, c.len-nodes.type_inv)

pub invariant_of-self-2 : goal.invariant_of-self-2
invariant_of-self-2 c =
    let old = c.self.inside in
    let cells = c.args.bindings in
    let made = c.make_room.new.nodes in
    let between = c.insert_reserved-key.new.self in
    let key = c.insert_reserved-key.ensures in
    let m = c.push_child.new.self in
    let head = c.in-Some-head_at.head in
    let new = written_leaf old between c.parent.inside.key m c.max-vars.result (old.leaves + 1) in
    let links = links_written old made between c.args.parent c.parent.inside.key c.insert_reserved-key.result _ c.index_mut-node.result.now m head c.args.posting c.max-vars.result (old.leaves + 1) c.parent.view_is key.was_vacant (leaf_put _ _ _ _ _ _ _ c.in_ok-node.ensures.leaf c.in_ok-node.ensures.parent key.updates) c.index_mut-node.ensures.value c.push_child.ensures refl c.in_ok-node.ensures.leaf.content (c.max-vars.ensures ∙ ap (max old.vars) c.beyond_entries.ensures) in
    let same = room_tree old made _ c.make_room.ensures.same ∙ c.self.view_is in
    let may = subst (λ t. MayAddLeaf t c.args.parent (bindings_of cells) c.args.posting) (sym same) c.requires.may in
    let kept = room_kept old made _ c.self.invariant c.make_room.ensures.same in
    let split : c.in-Some.split ≡ links.gains.split =
    same_Some _ _ (sym c.in-Some.is ∙ split_known _ _ _ _ may _ (subst (λ t. AtNode t c.args.parent (λ n. c.split.result ≡ split_of n.content)) (sym same) c.split.ensures))
    ∙ sym (splits (with_nodes old made) new c.args.parent c.insert_reserved-key.result _ _ m head c.args.posting links kept c.requires.whole may) in
    let told = head_told cells links.gains.split head c.requires.whole (sym (ap (head_in cells) split) ∙ sym c.head_at.ensures ∙ c.in-Some-head_at.is) in
    let here = leaf_head (with_nodes old made) new c.args.parent c.insert_reserved-key.result _ _ m head c.args.posting links kept c.requires.whole may told.0 told.1 told.2 in
    leaf_added (with_nodes old made) new c.args.parent c.insert_reserved-key.result _ _ m head c.args.posting links kept c.requires.whole may here refl refl

pub returns-clause-ok : goal.returns-clause-ok
returns-clause-ok c =
    let old = c.self.inside in
    let made = c.make_room.new.nodes in
    let between = c.insert_reserved-key.new.self in
    let key = c.insert_reserved-key.ensures in
    let m = c.push_child.new.self in
    let links = links_written old made between c.args.parent c.parent.inside.key c.insert_reserved-key.result _ c.index_mut-node.result.now m c.in-Some-head_at.head c.args.posting c.max-vars.result (old.leaves + 1) c.parent.view_is key.was_vacant (leaf_put _ _ _ _ _ _ _ c.in_ok-node.ensures.leaf c.in_ok-node.ensures.parent key.updates) c.index_mut-node.ensures.value c.push_child.ensures refl c.in_ok-node.ensures.leaf.content (c.max-vars.ensures ∙ ap (max old.vars) c.beyond_entries.ensures) in
    let same = room_tree old made _ c.make_room.ensures.same ∙ c.self.view_is in
    let may = subst (λ t. MayAddLeaf t c.args.parent (bindings_of c.args.bindings) c.args.posting) (sym same) c.requires.may in
    let kept = room_kept old made _ c.self.invariant c.make_room.ensures.same in
    let new = written_leaf old between c.parent.inside.key m c.max-vars.result (old.leaves + 1) in
    subst (λ t. HasNewLeaf t (tree_of new) c.args.parent (bindings_of c.args.bindings) c.args.posting c.insert_reserved-key.result) same
    (has_new_leaf (with_nodes old made) (written_leaf old between c.parent.inside.key m c.max-vars.result (old.leaves + 1)) c.args.parent c.insert_reserved-key.result _ _ m c.in-Some-head_at.head c.args.posting links kept c.requires.whole may)
