-- A slab in which an inner node is put between a node and its parent.
use Rattle.std.proofs.Common.{◌≡◌, ◌≢◌, ℕ, ◌+◌, List, map, arith, None, Some, sym, ◌∙◌, ap, subst}
use Rattle.std.proofs.lemmas.Option.{same_Some}
use Rattle.slab.specs.Slab.{Slab, get, slab_len, Updates}
use Rattle.si_legal.specs.Trees as trees
use Rattle.si_legal.specs.Counts.{counted}
use Rattle.si_flat.specs.Rows.{CellPair}
use Rattle.si_tree.specs.declared.node.Head.{Head}
use Rattle.si_tree.specs.Nodes.{TreeNode}
use Rattle.si_tree.proofs.CountLaws.{weight, nodes_counted}
use Rattle.si_tree.proofs.LeafSteps.{slab_counts}
use Rattle.si_tree.specs.KeptNodes.{node_in_slot, content_of, moved_below, GainsChild, HasChildBy, IsBelowBy, RelinksChild, MayPutBetween, IsPutBetween}

pub keys_apart : (s : Slab TreeNode) (j k : ℕ) (n : TreeNode) → get s j ≡ Some n → get s k ≡ None → j ≢ k
keys_apart s j k n some none e = differ (sym none ∙ ap (get s) (sym e) ∙ some) where
  differ : None ≡ Some n → ⊥
  differ f = cc

pub apart_back : (j k : ℕ) → j ≢ k → k ≢ j
apart_back j k apart e = apart (sym e)

-- the steps up to the node above
pub record Steps (s0 : Slab TreeNode) (key parent : ℕ) (fork : TreeNode) (rest : List CellPair)
    (leaf : TreeNode) (head : Head) (f l : ℕ) : Type 0 where
  pub s1 : Slab TreeNode
  pub s2 : Slab TreeNode
  pub s3 : Slab TreeNode
  pub s4 : Slab TreeNode
  pub may : MayPutBetween s0 key parent fork head
  pub node_head : Head
  pub stood : IsBelowBy s0 key parent node_head
  pub fork_vacant : get s0 f ≡ None
  pub fork_put : Updates s0 s1 f (Some fork)
  pub leaf_vacant : get s1 l ≡ None
  pub leaf_put : Updates s1 s2 l (Some (moved_below leaf f leaf.bindings))
  pub fork_then : TreeNode
  pub fork_got : get s2 f ≡ Some fork_then
  pub forked : TreeNode
  pub fork_changed : Updates s2 s3 f (Some forked)
  pub gains : GainsChild fork_then forked head l
  pub below : TreeNode
  pub below_got : get s3 key ≡ Some below
  pub below_changed : Updates s3 s4 key (Some (moved_below below f rest))
  pub above : TreeNode
  pub above_got : get s4 parent ≡ Some above

-- and the last one
pub record LastStep (s4 s5 : Slab TreeNode) (parent f : ℕ) (above : TreeNode) (node_head : Head)
    : Type 0 where
  pub linked : TreeNode
  pub above_changed : Updates s4 s5 parent (Some linked)
  pub relinks : (child : ℕ) → HasChildBy above node_head child → RelinksChild above linked child f

module _ (s0 : Slab TreeNode) (key parent : ℕ) (fork : TreeNode) (rest : List CellPair) (leaf : TreeNode) (head : Head) (f l : ℕ) (s : Steps s0 key parent fork rest leaf head f l) where
  fork_leaf : f ≢ l
  fork_leaf = keys_apart s.s1 f l fork s.fork_put.changed s.leaf_vacant

  key_fork : key ≢ f
  key_fork = keys_apart s0 key f s.stood.node s.stood.has s.fork_vacant

  parent_fork : parent ≢ f
  parent_fork = keys_apart s0 parent f s.stood.above s.stood.has_above s.fork_vacant

  key_one : get s.s1 key ≡ Some s.stood.node
  key_one = s.fork_put.others key key_fork ∙ s.stood.has

  parent_one : get s.s1 parent ≡ Some s.stood.above
  parent_one = s.fork_put.others parent parent_fork ∙ s.stood.has_above

  key_leaf : key ≢ l
  key_leaf = keys_apart s.s1 key l s.stood.node key_one s.leaf_vacant

  parent_leaf : parent ≢ l
  parent_leaf = keys_apart s.s1 parent l s.stood.above parent_one s.leaf_vacant

  fork_same : s.fork_then ≡ fork
  fork_same = same_Some s.fork_then fork (sym s.fork_got ∙ s.leaf_put.others f fork_leaf ∙ s.fork_put.changed)

  key_three : get s.s3 key ≡ Some s.stood.node
  key_three = s.fork_changed.others key key_fork ∙ s.leaf_put.others key key_leaf ∙ key_one

  below_same : s.below ≡ s.stood.node
  below_same = same_Some s.below s.stood.node (sym s.below_got ∙ key_three)

  parent_four : get s.s4 parent ≡ Some s.stood.above
  parent_four = s.below_changed.others parent (apart_back key parent s.may.apart) ∙ s.fork_changed.others parent parent_fork ∙ s.leaf_put.others parent parent_leaf ∙ parent_one

  above_same : s.above ≡ s.stood.above
  above_same = same_Some s.above s.stood.above (sym s.above_got ∙ parent_four)

  pub above_child : HasChildBy s.above s.node_head key
  above_child = subst (λ n. HasChildBy n s.node_head key) (sym above_same) s.stood.child

  module _ (s5 : Slab TreeNode) (last : LastStep s.s4 s5 parent f s.above s.node_head) where
    counts : (count : trees.Content → ℕ) → counted count (map node_in_slot s5.slots) + count (content_of s.stood.above.content) ≡ counted count (map node_in_slot s0.slots) + count (content_of s.forked.content) + count (content_of leaf.content) + count (content_of last.linked.content)
    counts count =
        let one = slab_counts count s0 s.s1 f (Some fork) s.fork_put in
        let two = slab_counts count s.s1 s.s2 l (Some (moved_below leaf f leaf.bindings)) s.leaf_put in
        let three = slab_counts count s.s2 s.s3 f (Some s.forked) s.fork_changed in
        let four = slab_counts count s.s3 s.s4 key (Some (moved_below s.below f rest)) s.below_changed in
        let five = slab_counts count s.s4 s5 parent (Some last.linked) last.above_changed in
        let a : weight count (node_in_slot (get s0 f)) ≡ 0 = ap (λ x. weight count (node_in_slot x)) s.fork_vacant in
        let b : weight count (node_in_slot (get s.s1 l)) ≡ 0 = ap (λ x. weight count (node_in_slot x)) s.leaf_vacant in
        let d : weight count (node_in_slot (get s.s2 f)) ≡ count (content_of fork.content) = ap (λ x. weight count (node_in_slot x)) s.fork_got ∙ ap (λ n. count (content_of n.content)) fork_same in
        let e : weight count (node_in_slot (get s.s3 key)) ≡ count (content_of s.below.content) = ap (λ x. weight count (node_in_slot x)) s.below_got in
        let g : weight count (node_in_slot (get s.s4 parent)) ≡ count (content_of s.stood.above.content) = ap (λ x. weight count (node_in_slot x)) parent_four in
        omega (arith, one, two, three, four, five, a, b, d, e, g)

    number : slab_len s5 ≡ slab_len s0 + 2
    number =
        let c = counts (λ content. 1) in
        omega (arith, c, nodes_counted s0.slots, nodes_counted s5.slots)

    pub put_between_is : IsPutBetween s0 s5 key parent fork rest leaf head f l
    put_between_is = record {
      node = s.stood.node;
      above = s.stood.above;
      linked = last.linked;
      forked = s.forked;
      had = s.stood.has;
      had_above = s.stood.has_above;
      fork_vacant = s.fork_vacant;
      leaf_vacant = sym (s.fork_put.others l (apart_back f l fork_leaf)) ∙ s.leaf_vacant;
      apart = fork_leaf;
      fork_at = last.above_changed.others f (apart_back parent f parent_fork) ∙ s.below_changed.others f (apart_back key f key_fork) ∙ s.fork_changed.changed;
      gains = subst (λ n. GainsChild n s.forked head l) fork_same s.gains;
      leaf_at = last.above_changed.others l (apart_back parent l parent_leaf) ∙ s.below_changed.others l (apart_back key l key_leaf) ∙ s.fork_changed.others l (apart_back f l fork_leaf) ∙ s.leaf_put.changed;
      node_at = last.above_changed.others key s.may.apart ∙ s.below_changed.changed ∙ ap (λ n. Some (moved_below n f rest)) below_same;
      above_at = last.above_changed.changed;
      relinks = subst (λ n. RelinksChild n last.linked key f) above_same (last.relinks key above_child);
      others = λ k a b c d. last.above_changed.others k b ∙ s.below_changed.others k a ∙ s.fork_changed.others k c ∙ s.leaf_put.others k d ∙ s.fork_put.others k c;
      counts = counts;
      number = number;
    }
