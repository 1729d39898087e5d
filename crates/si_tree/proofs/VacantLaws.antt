-- Slabs from which a leaf is taken, alone or with its parent.
use Rattle.std.proofs.Common.{◌≡◌, ◌≢◌, ℕ, ◌+◌, List, map, None, Some, inl, inr, sym, ◌∙◌, ap, subst, arith}
use Rattle.std.proofs.lemmas.Option.{same_Some}
use Rattle.slab.specs.Slab.{Slab, get, Updates}
use Rattle.si_legal.specs.Trees as trees
use Rattle.si_legal.specs.Counts.{counted}
use Rattle.si_flat.specs.Rows.{CellPair}
use Rattle.si_tree.specs.declared.node.Head.{Head}
use Rattle.si_tree.specs.Nodes.{TreeNode}
use Rattle.si_tree.specs.KeptNodes.{node_in_slot, content_of, moved_below, HasChildBy, IsBelowBy, RelinksChild}
use Rattle.si_tree.specs.Dropping.{LosesChild, HasBesides, MayTakeOut, IsTakenOut, MayTakeBoth, AreTakenOut}
use Rattle.si_tree.proofs.CountLaws.{weight}
use Rattle.si_tree.proofs.LeafSteps.{slab_counts}
use Rattle.si_tree.proofs.BetweenLaws.{apart_back}

-- ---- a leaf alone
-- what the leaf's parent has it as, when the leaf is gone
pub above_child : (s0 s1 : Slab TreeNode) (key parent : ℕ) (a : TreeNode) (head : Head) → parent ≢ key → Updates s0 s1 key None → get s1 parent ≡ Some a → IsBelowBy s0 key parent head → HasChildBy a head key
above_child s0 s1 key parent a head apart one got below =
    subst (λ n. HasChildBy n head key) (same_Some below.above a (sym below.has_above ∙ sym (one.others parent apart) ∙ got)) below.child

pub parent_at : (s0 : Slab TreeNode) (key parent : ℕ) (n : TreeNode) (may : MayTakeOut s0 key) → get s0 key ≡ Some n → n.parent ≡ Some parent → may.parent ≡ parent
parent_at s0 key parent n may had below =
    same_Some may.parent parent (sym may.below ∙ ap (λ x. x.parent) (same_Some may.node n (sym may.has ∙ had)) ∙ below)

pub taken_out : (s0 s1 s2 : Slab TreeNode) (key parent : ℕ) (n a b : TreeNode) → MayTakeOut s0 key → get s0 key ≡ Some n → n.parent ≡ Some parent → Updates s0 s1 key None → get s1 parent ≡ Some a → Updates s1 s2 parent (Some b) → (head : Head) → IsBelowBy s0 key parent head → ((child : ℕ) → HasChildBy a head child → LosesChild a b child) → IsTakenOut s0 s2 key
taken_out s0 s1 s2 key parent n a b may had below one got two head stood loses = record {
  node = n;
  parent = parent;
  above = a;
  after = b;
  had = had;
  below = below;
  had_above = sym (one.others parent apart) ∙ got;
  gone = two.others key (apart_back parent key apart) ∙ one.changed;
  above_at = two.changed;
  loses = loses key (above_child s0 s1 key parent a head apart one got stood);
  others = λ k x y. two.others k y ∙ one.others k x;
  counts = counts;
} where
  same : may.parent ≡ parent
  same = parent_at s0 key parent n may had below

  apart : parent ≢ key
  apart = subst (λ k. k ≢ key) same may.apart

  counts : (count : trees.Content → ℕ) → counted count (map node_in_slot s2.slots) + count (content_of n.content) + count (content_of a.content) ≡ counted count (map node_in_slot s0.slots) + count (content_of b.content)
  counts count =
      let first = slab_counts count s0 s1 key None one in
      let second = slab_counts count s1 s2 parent (Some b) two in
      let w : weight count (node_in_slot (get s0 key)) ≡ count (content_of n.content) = ap (λ x. weight count (node_in_slot x)) had in
      let v : weight count (node_in_slot (get s1 parent)) ≡ count (content_of a.content) = ap (λ x. weight count (node_in_slot x)) got in
      omega (arith, first, second, w, v)

-- ---- the keys that are read
module _ (s0 : Slab TreeNode) (key : ℕ) (may : MayTakeBoth s0 key) where
  pub parent_is : (n : TreeNode) (at parent : ℕ) → at ≡ key → get s0 at ≡ Some n → n.parent ≡ Some parent → parent ≡ may.parent
  parent_is n at parent e got below =
      same_Some parent may.parent (sym below ∙ ap (λ x. x.parent) (same_Some n may.node (sym got ∙ ap (get s0) e ∙ may.has)) ∙ may.below)

  pub upper_is : (n : TreeNode) (at upper : ℕ) → at ≡ may.parent → get s0 at ≡ Some n → n.parent ≡ Some upper → upper ≡ may.upper
  upper_is n at upper e got below =
      same_Some upper may.upper (sym below ∙ ap (λ x. x.parent) (same_Some n may.parent_node (sym got ∙ ap (get s0) e ∙ may.has_parent)) ∙ may.below_upper)

  pub besides_at : (n : TreeNode) (at : ℕ) → at ≡ may.parent → get s0 at ≡ Some n → HasBesides n key may.other
  besides_at n at e got = subst (λ x. HasBesides x key may.other) (same_Some may.parent_node n (sym may.has_parent ∙ ap (get s0) (sym e) ∙ got)) may.besides

  pub upper_child : (at at_upper : ℕ) (head : Head) → at ≡ may.parent → at_upper ≡ may.upper → IsBelowBy s0 at at_upper head → HasChildBy may.upper_node head may.parent
  upper_child at at_upper head e f below =
      subst (λ n. HasChildBy n head may.parent) (same_Some below.above may.upper_node (sym below.has_above ∙ ap (get s0) f ∙ may.has_upper))
      (subst (HasChildBy below.above head) e below.child)

  key_parent : key ≢ may.parent
  key_parent e = may.apart.0 (inl (sym e))

  key_other : key ≢ may.other
  key_other e = may.apart.0 (inr (inl (sym e)))

  key_upper : key ≢ may.upper
  key_upper e = may.apart.0 (inr (inr (inl (sym e))))

  parent_other : may.parent ≢ may.other
  parent_other e = may.apart.1.0 (inl (sym e))

  parent_upper : may.parent ≢ may.upper
  parent_upper e = may.apart.1.0 (inr (inl (sym e)))

  other_upper : may.other ≢ may.upper
  other_upper e = may.apart.1.1.0 (inl (sym e))

  -- ---- what stands there, after each step
  module _ (s1 s2 : Slab TreeNode) (one : Updates s0 s1 key None) (two : Updates s1 s2 may.parent None) where
    pub other_then : get s2 may.other ≡ Some may.other_node
    other_then = two.others may.other (apart_back may.parent may.other parent_other) ∙ one.others may.other (apart_back key may.other key_other) ∙ may.has_other

    upper_then : get s2 may.upper ≡ Some may.upper_node
    upper_then = two.others may.upper (apart_back may.parent may.upper parent_upper) ∙ one.others may.upper (apart_back key may.upper key_upper) ∙ may.has_upper

    pub upper_there : (s3 : Slab TreeNode) (m : TreeNode) → Updates s2 s3 may.other (Some m) → get s3 may.upper ≡ Some may.upper_node
    upper_there s3 m three = three.others may.upper (apart_back may.other may.upper other_upper) ∙ upper_then

    pub taken_both : (s3 s4 : Slab TreeNode) (cells : List CellPair) (b a l : TreeNode) → get s2 may.other ≡ Some b → Updates s2 s3 may.other (Some (moved_below b may.upper cells)) → get s3 may.upper ≡ Some a → Updates s3 s4 may.upper (Some l) → RelinksChild a l may.parent may.other → AreTakenOut s0 s4 key cells may
    taken_both s3 s4 cells b a l got_other three got_upper four relinks = record {
      linked = l;
      gone = four.others key key_upper ∙ three.others key key_other ∙ two.others key key_parent ∙ one.changed;
      parent_gone = four.others may.parent parent_upper ∙ three.others may.parent parent_other ∙ two.changed;
      other_at = four.others may.other other_upper ∙ three.changed ∙ ap (λ n. Some (moved_below n may.upper cells)) same_other;
      upper_at = four.changed;
      relinks = subst (λ n. RelinksChild n l may.parent may.other) same_upper relinks;
      others = λ k w x y z. four.others k z ∙ three.others k y ∙ two.others k x ∙ one.others k w;
      counts = counts;
    } where
      same_other : b ≡ may.other_node
      same_other = same_Some b may.other_node (sym got_other ∙ other_then)

      same_upper : a ≡ may.upper_node
      same_upper = same_Some a may.upper_node (sym got_upper ∙ upper_there s3 (moved_below b may.upper cells) three)

      counts : (count : trees.Content → ℕ) → counted count (map node_in_slot s4.slots) + count (content_of may.node.content) + count (content_of may.parent_node.content) + count (content_of may.upper_node.content) ≡ counted count (map node_in_slot s0.slots) + count (content_of l.content)
      counts count =
          let first = slab_counts count s0 s1 key None one in
          let second = slab_counts count s1 s2 may.parent None two in
          let third = slab_counts count s2 s3 may.other (Some (moved_below b may.upper cells)) three in
          let fourth = slab_counts count s3 s4 may.upper (Some l) four in
          let w : weight count (node_in_slot (get s0 key)) ≡ count (content_of may.node.content) = ap (λ x. weight count (node_in_slot x)) may.has in
          let v : weight count (node_in_slot (get s1 may.parent)) ≡ count (content_of may.parent_node.content) = ap (λ x. weight count (node_in_slot x)) (one.others may.parent (apart_back key may.parent key_parent) ∙ may.has_parent) in
          let u : weight count (node_in_slot (get s2 may.other)) ≡ count (content_of b.content) = ap (λ x. weight count (node_in_slot x)) got_other in
          let t : weight count (node_in_slot (get s3 may.upper)) ≡ count (content_of may.upper_node.content) = ap (λ x. weight count (node_in_slot x)) (upper_there s3 (moved_below b may.upper cells) three) in
          omega (arith, first, second, third, fourth, w, v, u, t)
