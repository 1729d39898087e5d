-- A leaf of a kept tree gets a posting, or loses one.
use Rattle.std.proofs.Common.{◌≡◌, ℕ, ◌+◌, ◌≤◌, List, [], ◌∷◌, ◌++◌, Some, None, get_or, map, refl, sym, ◌∙◌, ap, subst, arith}
use Rattle.std.specs.Prelude.{is_some}
use Rattle.slab.specs.Slab.{get, Updates, with_value}
use Rattle.slab.proofs.SlabLemmas.{Updates-with_value}
use Rattle.si_flat.specs.Cells.{Term}
use Rattle.si_legal.specs.declared.Posting.{Posting}
use Rattle.si_legal.specs.Trees.{Content, inner, leaf, Node, Tree, HasNode, IsLeaf, StandsIn}
use Rattle.si_legal.specs.Legal.{IsLegal}
use Rattle.si_legal.specs.Counts.{leaves_of, unmerged_of, leaf_count, unmerged_count}
use Rattle.si_legal.proofs.PathLaws.{one_node}
use Rattle.si_changes.specs.Nodes.{ChangesPostings}
use Rattle.si_changes.proofs.PostingLaws.{gains_posting, loses_posting}
use Rattle.si_tree.specs.Nodes.{TreeNode}
use Rattle.si_tree.specs.declared.tree.Tree.TheInside.{Inside}
use Rattle.si_tree.specs.Changes.{HasPosting, IsNotStored, AddsPosting, DropsPosting, IsWithout}
use Rattle.si_tree.specs.KeptNodes.{node_of, node_in_slot, tree_of, content_of, IsKept, IsLeafNode, IsSameBut, postings_in}
use Rattle.si_tree.specs.Reading.{postings_of}
use Rattle.si_tree.proofs.SlotLaws.{node_read}
use Rattle.si_tree.proofs.CountLaws.{weight, counted_least, counted_below}
use Rattle.si_tree.proofs.KeptLaws.{ChangesLeaf, changes, leaf_kept, same_tree}

-- the key has the postings that stand there
pub has_posting : (tree : Tree Term) (key : ℕ) (t : Term) (p : Posting) → StandsIn tree key t p → HasPosting tree key p
has_posting tree key t p stands = record {
  node = stands.1.node;
  postings = stands.0;
  has = stands.1.reached.1;
  content = stands.1.content;
  among = stands.2;
}

-- the content of a leaf
content_is : (n : TreeNode) (ps : List Posting) → IsLeafNode n → postings_in n ≡ ps → content_of n.content ≡ leaf ps
content_is n ps (qs, q) e = q ∙ ap leaf (sym (ap postings_of q) ∙ e)

-- the key and its node in the slab, and the tree's node
pub leaf_node : (old : Inside) (key : ℕ) (n : TreeNode) (node : Node Term) (ps : List Posting) → get old.nodes key ≡ Some n → HasNode (tree_of old) key node → node.content ≡ leaf ps → IsLeafNode n
leaf_node old key n node ps got has content =
    (ps, ap (λ x. x.content) (one_node (tree_of old) key (node_of n) node (node_read old.nodes.slots key n got) has) ∙ content)

-- what a write through `&mut` changes
pub change_of : (old new : Inside) (key : ℕ) (n m : TreeNode) → get old.nodes key ≡ Some n → new.nodes ≡ with_value old.nodes key m → IsSameBut n m → IsLeafNode n → new.root ≡ old.root → new.next ≡ old.next → new.vars ≡ old.vars → ChangesLeaf old new key n m
change_of old new key n m got written same was root next vars = record {
  got = got;
  updates = subst (λ s. Updates old.nodes s key (Some m)) (sym written) (Updates-with_value old.nodes key m (ap is_some got));
  same = same;
  was_leaf = was;
  root = root;
  next = next;
  vars = vars;
}

-- the leaf as the stored set has it
stands : (old : Inside) (key : ℕ) (n : TreeNode) (ps : List Posting) → IsKept old → get old.nodes key ≡ Some n → content_of n.content ≡ leaf ps → (t : Term) × IsLeaf (tree_of old) key t ps
stands old key n ps kept got content =
    let has : HasNode (tree_of old) key (node_of n) = node_read old.nodes.slots key n got in
    let h = kept.legal.nodes key (node_of n) has in (
      _,
      record {
        node = node_of n;
        above = h.above;
        reached = (refl, has, h.reached);
        content = content;
        term = refl;
      },
    )

-- ---- one more
pub record IsAdded (old new : Inside) (key : ℕ) (n m : TreeNode) (p : Posting) : Type 0 where
  pub kept : IsKept old
  pub change : ChangesLeaf old new key n m
  pub postings : postings_in m ≡ postings_in n ++ p ∷ []
  pub not_stored : IsNotStored (tree_of old) p
  pub leaves : new.leaves ≡ old.leaves
  pub unmerged : new.unmerged + unmerged_of (content_of n.content) ≡ old.unmerged

none_unmerged : (ps : List Posting) (p : Posting) → unmerged_of (leaf (ps ++ p ∷ [])) ≡ 0
none_unmerged [] p = refl
none_unmerged (q ∷ ps) p = refl

module _ (old new : Inside) (key : ℕ) (n m : TreeNode) (p : Posting) (added : IsAdded old new key n m p) where
  before : List Posting
  before = postings_in n

  was : content_of n.content ≡ leaf (postings_in n)
  was = content_is n (postings_in n) added.change.was_leaf refl

  is : content_of m.content ≡ leaf (postings_in n ++ p ∷ [])
  is = content_is m (postings_in n ++ p ∷ []) added.change.same.leaf_still added.postings

  changed : ChangesPostings (tree_of old) (tree_of new) key (postings_in n) (postings_in n ++ p ∷ [])
  changed = changes old new key n m added.change (postings_in n) (postings_in n ++ p ∷ []) was is

  stood_there : (t : Term) × IsLeaf (tree_of old) key t (postings_in n)
  stood_there = stands old key n (postings_in n) added.kept added.change.got was

  pub added_kept : IsKept new
  added_kept =
      let legal = (gains_posting (tree_of old) (tree_of new) key (postings_in n) p stood_there.0 added.kept.legal changed stood_there.1 added.not_stored).0 in
      leaf_kept old new key n m added.change added.kept legal added.leaves
      (added.unmerged ∙ sym (omega (arith, ap unmerged_of is ∙ none_unmerged (postings_in n) p)))

  pub adds : AddsPosting (tree_of old) (tree_of new) key p
  adds = record {
    postings = postings_in n;
    changes = changed;
    gains = λ t here. (gains_posting (tree_of old) (tree_of new) key (postings_in n) p t added.kept.legal changed here added.not_stored).1;
    keeps = (gains_posting (tree_of old) (tree_of new) key (postings_in n) p stood_there.0 added.kept.legal changed stood_there.1 added.not_stored).2;
  }

-- ---- where nothing changed
pub unchanged_kept : (old new : Inside) (key : ℕ) (n m : TreeNode) → IsKept old → ChangesLeaf old new key n m → postings_in m ≡ postings_in n → tree_of new ≡ tree_of old → new.leaves ≡ old.leaves → new.unmerged ≡ old.unmerged → IsKept new
unchanged_kept old new key n m kept change same tree leaves unmerged =
    leaf_kept old new key n m change kept (subst IsLegal (sym tree) kept.legal) leaves
    (λ i. unmerged i + unmerged_of (sym contents i)) where
      contents : content_of m.content ≡ content_of n.content
      contents =
          content_is m (postings_in n) change.same.leaf_still same
          ∙ sym (content_is n (postings_in n) change.was_leaf refl)

-- ---- one fewer
pub record IsDropped (old new : Inside) (key : ℕ) (n m : TreeNode) (p : Posting) : Type 0 where
  pub kept : IsKept old
  pub change : ChangesLeaf old new key n m
  pub without : IsWithout (postings_in n) p (postings_in m)
  pub leaves : new.leaves ≡ old.leaves
  pub unmerged : new.unmerged ≡ old.unmerged + unmerged_of (content_of m.content)

some_unmerged : (ps qs : List Posting) (p : Posting) → unmerged_of (leaf (ps ++ p ∷ qs)) ≡ 0
some_unmerged [] qs p = refl
some_unmerged (q ∷ ps) qs p = refl

module _ (old new : Inside) (key : ℕ) (n m : TreeNode) (p : Posting) (dropped : IsDropped old new key n m p) where
  had_then : content_of n.content ≡ leaf (dropped.without.before ++ p ∷ dropped.without.after)
  had_then = content_is n _ dropped.change.was_leaf dropped.without.old_is

  has_now : content_of m.content ≡ leaf (dropped.without.before ++ dropped.without.after)
  has_now = content_is m _ dropped.change.same.leaf_still dropped.without.new_is

  fewer : ChangesPostings (tree_of old) (tree_of new) key (dropped.without.before ++ p ∷ dropped.without.after) (dropped.without.before ++ dropped.without.after)
  fewer = changes old new key n m dropped.change _ _ had_then has_now

  stood_before : (t : Term) × IsLeaf (tree_of old) key t (dropped.without.before ++ p ∷ dropped.without.after)
  stood_before = stands old key n _ dropped.kept dropped.change.got had_then

  pub dropped_kept : IsKept new
  dropped_kept =
      let legal = (loses_posting (tree_of old) (tree_of new) key dropped.without.before dropped.without.after p stood_before.0 dropped.kept.legal fewer stood_before.1).0 in
      leaf_kept old new key n m dropped.change dropped.kept legal dropped.leaves
      (omega (arith, dropped.unmerged, ap unmerged_of had_then ∙ some_unmerged dropped.without.before dropped.without.after p))

  pub drops : DropsPosting (tree_of old) (tree_of new) key p
  drops = record {
    before = dropped.without.before;
    after = dropped.without.after;
    changes = fewer;
    loses = λ t here. (loses_posting (tree_of old) (tree_of new) key dropped.without.before dropped.without.after p t dropped.kept.legal fewer here).1;
    keeps = (loses_posting (tree_of old) (tree_of new) key dropped.without.before dropped.without.after p stood_before.0 dropped.kept.legal fewer stood_before.1).2;
  }

-- ---- the number of unmerged leaves
pub enough_unmerged : (old : Inside) (key : ℕ) (n : TreeNode) → IsKept old → get old.nodes key ≡ Some n → unmerged_of (content_of n.content) ≤ old.unmerged
enough_unmerged old key n kept got =
    let least = counted_least unmerged_of (map node_in_slot old.nodes.slots) key in
    let here : weight unmerged_of (get_or (map node_in_slot old.nodes.slots) key None) ≡ unmerged_of (content_of n.content) = ap (weight unmerged_of) (node_read old.nodes.slots key n got) in
    omega (arith, kept.unmerged, here, least)

unmerged_leaf : (c : Content) → unmerged_of c ≤ leaves_of c
unmerged_leaf (inner split children) = omega arith
unmerged_leaf (leaf []) = omega arith
unmerged_leaf (leaf (p ∷ ps)) = omega arith

-- they are no more than all leaves
pub unmerged_fits : (t : Tree Term) → unmerged_count t ≤ leaf_count t
unmerged_fits t = counted_below unmerged_of leaves_of t.nodes unmerged_leaf

-- ---- the leaf written through `&mut`
abbrev pub written : Inside → ℕ → TreeNode → ℕ → Inside
written old key m unmerged = record {
  alloc = old.alloc;
  nodes = with_value old.nodes key m;
  root = old.root;
  next = old.next;
  vars = old.vars;
  leaves = old.leaves;
  unmerged = unmerged;
  renumbered_next = old.renumbered_next;
}

pub change_written : (old : Inside) (tree : Tree Term) (key named : ℕ) (n m : TreeNode) (node : Node Term) (ps : List Posting) (unmerged : ℕ) → tree_of old ≡ tree → key ≡ named → get old.nodes key ≡ Some n → HasNode tree named node → node.content ≡ leaf ps → IsSameBut n m → ChangesLeaf old (written old key m unmerged) key n m
change_written old tree key named n m node ps unmerged view is got has content same =
    let here : HasNode (tree_of old) key node = subst (λ k. HasNode (tree_of old) k node) (sym is) (subst (λ t. HasNode t named node) (sym view) has) in
    change_of old (written old key m unmerged) key n m got refl same (leaf_node old key n node ps got here content) refl refl refl

pub same_written : (old : Inside) (key : ℕ) (n m : TreeNode) (unmerged : ℕ) → ChangesLeaf old (written old key m unmerged) key n m → postings_in m ≡ postings_in n → tree_of (written old key m unmerged) ≡ tree_of old
same_written old key n m unmerged change same = same_tree old (written old key m unmerged) key n m change refl same
