use Rattle.std.proofs.Common.{◌≡◌, Some, ap, subst, arith}
use Rattle.std.specs.Prelude.{is_some}
use Rattle.slab.specs.Slab.{get, Updates, with_value}
use Rattle.slab.proofs.SlabLemmas.{Updates-with_value}
use Rattle.si_tree.proofs.BetweenLaws.{Steps, above_child, put_between_is}
use Rattle.si_tree.proofs.tree.put_between.Goals as goal

steps : (c : goal.After-index_mut-above) → Steps c.args.nodes.now c.args.node c.args.parent c.args.fork c.args.rest c.args.leaf c.args.head c.insert_reserved-fork_key.result c.insert_reserved-leaf_key.result
steps c =
    let f = c.insert_reserved-fork_key.result in
    let s2 = c.insert_reserved-leaf_key.new.self in
    let s3 = with_value s2 f c.push_child.new.self in
    let s4 = with_value s3 c.node.inside.key c.move_below.new.self in
    let got_below = c.index_mut-below.ensures.value in
    let moved = c.move_below.ensures in
    record {
      s1 = c.insert_reserved-fork_key.new.self;
      s2 = s2;
      s3 = s3;
      s4 = s4;
      may = c.requires;
      node_head = c.head_below-node_head.result;
      stood = c.head_below-node_head.ensures;
      fork_vacant = c.insert_reserved-fork_key.ensures.was_vacant;
      fork_put = c.insert_reserved-fork_key.ensures.updates;
      leaf_vacant = c.insert_reserved-leaf_key.ensures.was_vacant;
      leaf_put = subst (λ n. Updates c.insert_reserved-fork_key.new.self s2 c.insert_reserved-leaf_key.result (Some n)) c.put_below.ensures c.insert_reserved-leaf_key.ensures.updates;
      fork_then = c.index_mut-forked.result.now;
      fork_got = c.index_mut-forked.ensures.value;
      forked = c.push_child.new.self;
      fork_changed = Updates-with_value s2 f c.push_child.new.self (ap is_some c.index_mut-forked.ensures.value);
      gains = c.push_child.ensures;
      below = c.index_mut-below.result.now;
      below_got = subst (λ k. get s3 k ≡ Some c.index_mut-below.result.now) c.node.view_is got_below;
      below_changed = subst (λ n. Updates s3 s4 c.args.node (Some n)) moved (subst (λ k. Updates s3 s4 k (Some c.move_below.new.self)) c.node.view_is (Updates-with_value s3 c.node.inside.key c.move_below.new.self (ap is_some got_below)));
      above = c.index_mut-above.result.now;
      above_got = subst (λ k. get s4 k ≡ Some c.index_mut-above.result.now) c.parent.view_is c.index_mut-above.ensures.value;
    }

pub relink-requires : goal.relink-requires
unfolding steps
relink-requires c = (c.args.node, above_child _ _ _ _ _ _ _ _ _ (steps c))

pub returns : goal.returns
unfolding steps
returns c =
    let s4 = with_value (with_value c.insert_reserved-leaf_key.new.self c.insert_reserved-fork_key.result c.push_child.new.self) c.node.inside.key c.move_below.new.self in
    let s5 = with_value s4 c.parent.inside.key c.relink.new.self in
    put_between_is _ _ _ _ _ _ _ _ _ (steps c.before.before) s5 (record {
      linked = c.relink.new.self;
      above_changed = subst (λ k. Updates s4 s5 k (Some c.relink.new.self)) c.parent.view_is (Updates-with_value s4 c.parent.inside.key c.relink.new.self (ap is_some c.index_mut-above.ensures.value));
      relinks = c.relink.ensures;
    })

pub overflow_cast-fork_id : goal.overflow_cast-fork_id
overflow_cast-fork_id c = omega (arith, c.insert_reserved-fork_key.ensures.key_in_range, c.insert_reserved-fork_key.ensures.capacity, c.requires.named)

pub overflow_cast-leaf_id : goal.overflow_cast-leaf_id
overflow_cast-leaf_id c =
    omega (arith, c.insert_reserved-leaf_key.ensures.key_in_range, c.insert_reserved-leaf_key.ensures.capacity, c.insert_reserved-fork_key.ensures.capacity, c.requires.named)
