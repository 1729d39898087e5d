-- A leaf goes from a kept tree, and its parent stays.
use Rattle.std.proofs.Common.{◌≡◌, ◌≢◌, ℕ, zero, suc, ◌+◌, ◌-◌, ◌<◌, List, [], ◌∷◌, length, take, set, None, Some, map, get_or, inl, inr, refl, sym, ◌∙◌, ap, subst, arith}
use Rattle.std.specs.Prelude.{IsPermutation}
use Rattle.std.specs.List.{swap_remove}
use Rattle.std.proofs.lemmas.Bool.{cases_eq}
use Rattle.std.proofs.lemmas.Option.{same_Some, slice_get_within, get_or_from_slice_get}
use Rattle.std.proofs.lemmas.List.Sorted.{IsPermutation-refl, IsPermutation-sym, IsPermutation-swap_remove}
use Rattle.slab.specs.Slab.{Slab, get}
use Rattle.si_defs.specs.Substitutions.{IsAmong, AreDistinct}
use Rattle.si_flat.specs.Cells.{Term}
use Rattle.si_flat.specs.Rows.{AreWhole}
use Rattle.si_legal.specs.Trees.{inner, leaf, Node, Tree, HasNode}
use Rattle.si_legal.specs.Trees as trees
use Rattle.si_legal.specs.Legal.{IsLegal, IsLegalContent}
use Rattle.si_legal.specs.Counts.{counted, leaves_of, unmerged_of}
use Rattle.si_legal.specs.StoredSets.{StaysStored, KeepsLeaves}
use Rattle.si_legal.proofs.PathLaws.{one_node}
use Rattle.si_changes.specs.Nodes.{with_content}
use Rattle.si_changes.specs.Leaves.{MayDropLeaf, DropsLeaf}
use Rattle.si_changes.proofs.Frames.{legal_nodes, differ_told}
use Rattle.si_changes.proofs.Permuted.{permuted_distinct}
use Rattle.si_changes.proofs.LeafLaws.{drops_leaf}
use Rattle.si_tree.specs.declared.node.Head.{Head}
use Rattle.si_tree.specs.Nodes.{TreeNode}
use Rattle.si_tree.specs.declared.tree.Tree.TheInside.{Inside}
use Rattle.si_tree.specs.Decoding.{bindings_of}
use Rattle.si_tree.specs.Dropping.{Drops, MayTakeOut, IsTakenOut}
use Rattle.si_tree.specs.Heads.{HeadsAt, AreHeadsOf}
use Rattle.si_tree.specs.KeptNodes.{node_of, node_in_slot, tree_of, content_of, heads_of, KnowsHeads, IsKept}
use Rattle.si_tree.proofs.SlotLaws.{slot_read, node_read, vacant_read, stood}
use Rattle.si_tree.proofs.ChildLaws.{inner_no_leaf}
use Rattle.si_tree.proofs.HeadLaws.{as_many}
use Rattle.si_tree.proofs.KeptLaws.{leaf_known}
use Rattle.si_tree.proofs.BelowLaws.{is_below}
use Rattle.si_tree.proofs.RoomLaws.{known_told, known_from}

-- ---- heads
pub heads_each : (old new : Tree Term) (split : ℕ) (heads : List Head) (children : List ℕ) → ((c : ℕ) (h : Head) → IsAmong children c → HeadsAt old split c h → HeadsAt new split c h) → AreHeadsOf old split heads children → AreHeadsOf new split heads children
heads_each old new split [] [] keeps are = tt
heads_each old new split [] (c ∷ cs) keeps are = absurd are
heads_each old new split (h ∷ hs) [] keeps are = absurd are
heads_each old new split (h ∷ hs) (c ∷ cs) keeps are = (keeps c h (inl refl) are.0, heads_each old new split hs cs (λ d k a. keeps d k (inr a)) are.1)

heads_taken : (tree : Tree Term) (split n : ℕ) (heads : List Head) (children : List ℕ) → AreHeadsOf tree split heads children → AreHeadsOf tree split (take n heads) (take n children)
heads_taken tree split zero heads children are = tt
heads_taken tree split (suc n) [] [] are = tt
heads_taken tree split (suc n) [] (c ∷ cs) are = absurd are
heads_taken tree split (suc n) (h ∷ hs) [] are = absurd are
heads_taken tree split (suc n) (h ∷ hs) (c ∷ cs) are = (are.0, heads_taken tree split n hs cs are.1)

heads_set : (tree : Tree Term) (split n : ℕ) (heads : List Head) (children : List ℕ) (h : Head) (c : ℕ) → HeadsAt tree split c h → AreHeadsOf tree split heads children → AreHeadsOf tree split (set heads n h) (set children n c)
heads_set tree split n [] [] h c at are = tt
heads_set tree split n [] (d ∷ cs) h c at are = absurd are
heads_set tree split n (k ∷ hs) [] h c at are = absurd are
heads_set tree split zero (k ∷ hs) (d ∷ cs) h c at are = (at, are.1)
heads_set tree split (suc n) (k ∷ hs) (d ∷ cs) h c at are = (are.0, heads_set tree split n hs cs h c at are.1)

heads_got : (tree : Tree Term) (split n : ℕ) (heads : List Head) (children : List ℕ) (h : Head) (c : ℕ) → n < length heads → AreHeadsOf tree split heads children → HeadsAt tree split (get_or children n c) (get_or heads n h)
heads_got tree split n [] children h c inside are = absurd (omega (arith, inside))
heads_got tree split n (k ∷ hs) [] h c inside are = absurd are
heads_got tree split zero (k ∷ hs) (d ∷ cs) h c inside are = are.0
heads_got tree split (suc n) (k ∷ hs) (d ∷ cs) h c inside are = heads_got tree split n hs cs h c (omega (arith, inside)) are.1

-- a child goes with its head, and the last one takes its place
heads_swapped : (tree : Tree Term) (split place : ℕ) (heads : List Head) (children : List ℕ) (h : Head) (c : ℕ) → AreHeadsOf tree split heads children → AreHeadsOf tree split (swap_remove heads place h) (swap_remove children place c)
heads_swapped tree split place [] [] h c are = tt
heads_swapped tree split place [] (d ∷ cs) h c are = absurd are
heads_swapped tree split place (k ∷ hs) [] h c are = absurd are
heads_swapped tree split place (k ∷ hs) (d ∷ cs) h c are =
    let last = length (k ∷ hs) - 1 in
    let moved = heads_set tree split place (k ∷ hs) (d ∷ cs) (get_or (k ∷ hs) last h) (get_or (d ∷ cs) last c) (heads_got tree split last (k ∷ hs) (d ∷ cs) h c (omega arith) are) are in
    subst (λ n. AreHeadsOf tree split (swap_remove (k ∷ hs) place h) (take (n - 1) (set (d ∷ cs) place (get_or (d ∷ cs) (n - 1) c)))) (as_many tree split (k ∷ hs) (d ∷ cs) are)
    (heads_taken tree split last (set (k ∷ hs) place (get_or (k ∷ hs) last h)) (set (d ∷ cs) place (get_or (d ∷ cs) last c)) moved)

-- ---- what is written
abbrev pub without_leaf : Inside → Slab TreeNode → Inside
without_leaf old nodes = record {
  alloc = old.alloc;
  nodes = nodes;
  root = old.root;
  next = old.next;
  vars = old.vars;
  leaves = old.leaves - 1;
  unmerged = old.unmerged - 1;
  renumbered_next = old.renumbered_next;
}

-- the parent, and the node that is its child
pub parent_content : (tree : Tree Term) (key parent : ℕ) (node above : Node Term) (split : ℕ) (children : List ℕ) → IsLegal tree → HasNode tree key node → node.parent ≡ Some parent → HasNode tree parent above → above.content ≡ inner split children → IsAmong children key
parent_content tree key parent node above split children legal has below there content =
    let h = legal.nodes parent above there in
    ((subst (IsLegalContent tree parent ((parent, above) ∷ h.above)) content h.content).1 key).1 (node, has, below)

-- only the parent has it as a child
pub only_parent : (tree : Tree Term) (key parent k : ℕ) (node n : Node Term) (split : ℕ) (children : List ℕ) → IsLegal tree → HasNode tree key node → node.parent ≡ Some parent → HasNode tree k n → n.content ≡ inner split children → IsAmong children key → k ≡ parent
only_parent tree key parent k node n split children legal has below there content a =
    let h = legal.nodes k n there in
    let found = ((subst (IsLegalContent tree k ((k, n) ∷ h.above)) content h.content).1 key).0 a in
    same_Some k parent (sym found.2 ∙ ap (λ x. x.parent) (one_node tree key found.0 node found.1 has) ∙ below)

pub children_distinct : (tree : Tree Term) (k : ℕ) (n : Node Term) (split : ℕ) (children : List ℕ) → IsLegal tree → HasNode tree k n → n.content ≡ inner split children → AreDistinct children
children_distinct tree k n split children legal there content =
    let h = legal.nodes k n there in
    (differ_told tree split children (legal_nodes tree legal) (subst (IsLegalContent tree k ((k, n) ∷ h.above)) content h.content).2).distinct

pub apart_from_leaf : (tree : Tree Term) (k key : ℕ) (n node : Node Term) (split : ℕ) (children : List ℕ) → HasNode tree k n → n.content ≡ inner split children → HasNode tree key node → node.content ≡ leaf [] → k ≢ key
apart_from_leaf tree k key n node split children there content has is e =
    inner_no_leaf split children [] (sym content ∙ ap (λ m. m.content) (one_node tree key n node (subst (λ j. HasNode tree j n) e there) has) ∙ is)

-- ---- what the code asks for
pub may_take_out : (old : Inside) (key : ℕ) → IsKept old → MayDropLeaf (tree_of old) key → MayTakeOut old.nodes key
may_take_out old key kept may =
    let here = stood old.nodes.slots key may.stands.node may.stands.has in
    let above = stood old.nodes.slots may.stands.parent may.stands.parent_node may.stands.is_parent in
    let content : content_of above.kept.content ≡ inner may.stands.split may.stands.children = ap (λ n. n.content) above.read ∙ may.stands.inner_node in
    record {
      node = here.kept;
      parent = may.stands.parent;
      has = here.got;
      below = ap (λ n. n.parent) here.read ∙ may.stands.below;
      child = is_below old kept may.stands.parent above.kept may.stands.split may.stands.children above.got content key here.kept here.got (parent_content (tree_of old) key may.stands.parent may.stands.node may.stands.parent_node may.stands.split may.stands.children kept.legal may.stands.has may.stands.below may.stands.is_parent may.stands.inner_node);
      apart = apart_from_leaf (tree_of old) may.stands.parent key may.stands.parent_node may.stands.node may.stands.split may.stands.children may.stands.is_parent may.stands.inner_node may.stands.has may.empty;
    }

-- ---- the step
module _ (old : Inside) (nodes : Slab TreeNode) (key : ℕ) (kept : IsKept old) (may : MayDropLeaf (tree_of old) key) (taken : IsTakenOut old.nodes nodes key) where
  abbrev new : Inside
  new = without_leaf old nodes

  had : HasNode (tree_of old) key (node_of taken.node)
  had = node_read old.nodes.slots key taken.node taken.had

  node_is : node_of taken.node ≡ may.stands.node
  node_is = one_node (tree_of old) key (node_of taken.node) may.stands.node had may.stands.has

  was_leaf : content_of taken.node.content ≡ leaf []
  was_leaf = ap (λ n. n.content) node_is ∙ may.empty

  above_had : HasNode (tree_of old) taken.parent (node_of taken.above)
  above_had = node_read old.nodes.slots taken.parent taken.above taken.had_above

  abbrev stay : List ℕ
  stay = swap_remove taken.loses.children taken.loses.place key

  stay_are : IsPermutation (key ∷ stay) taken.loses.children
  stay_are =
      IsPermutation-sym taken.loses.children (key ∷ stay)
      (IsPermutation-swap_remove taken.loses.children taken.loses.place key (slice_get_within taken.loses.children taken.loses.place key taken.loses.there)
      (sym (get_or_from_slice_get taken.loses.children taken.loses.place key key taken.loses.there)))

  after_is : node_of taken.after ≡ with_content (node_of taken.above) (inner taken.loses.split stay)
  after_is = λ i. record { parent = taken.loses.parent i; bindings = bindings_of (taken.loses.bindings i); content = taken.loses.is i }

  other_slot : (k : ℕ) → k ≢ key → k ≢ taken.parent → get_or (map node_in_slot nodes.slots) k None ≡ get_or (map node_in_slot old.nodes.slots) k None
  other_slot k a b = slot_read nodes.slots k ∙ ap node_in_slot (taken.others k a b) ∙ sym (slot_read old.nodes.slots k)

  drops : DropsLeaf (tree_of old) (tree_of new) key
  drops = record {
    node = node_of taken.node;
    parent = taken.parent;
    had = had;
    below = taken.below;
    gone = vacant_read nodes.slots key taken.gone;
    linked = record {
      node = node_of taken.above;
      split = taken.loses.split;
      stay = stay;
      before = taken.loses.children;
      after = stay;
      had = above_had;
      content = taken.loses.was;
      before_are = stay_are;
      has = node_read nodes.slots taken.parent taken.after taken.above_at ∙ ap Some after_is;
      after_are = IsPermutation-refl stay;
    };
    others = λ k none. other_slot k (λ e. none (inl (sym e))) (λ e. none (inr (inl (sym e))));
    root = refl;
    next = refl;
    vars = refl;
  }

  dropped : IsLegal (tree_of new) × StaysStored (tree_of old) (tree_of new) × KeepsLeaves (tree_of old) (tree_of new)
  dropped = drops_leaf (tree_of old) (tree_of new) key kept.legal may drops

  -- ---- heads
  keeps_heads : (n c : ℕ) (h : Head) → c ≢ key → HeadsAt (tree_of old) n c h → HeadsAt (tree_of new) n c h
  keeps_heads n c h apart (t, (node, has, binds), head) = elim (cases_eq c taken.parent) as (λ _. HeadsAt (tree_of new) n c h) [
    | inl e ↦
        (let is : node_of taken.above ≡ node = one_node (tree_of old) c (node_of taken.above) node (subst (λ j. HasNode (tree_of old) j (node_of taken.above)) (sym e) above_had) has in
        let same : bindings_of taken.after.bindings ≡ node.bindings = ap bindings_of taken.loses.bindings ∙ ap (λ x. x.bindings) is in
        (t, (node_of taken.after, subst (λ j. HasNode (tree_of new) j (node_of taken.after)) (sym e) (node_read nodes.slots taken.parent taken.after taken.above_at), subst (λ bs. IsAmong bs (n, t)) (sym same) binds), head))
    | inr other ↦ (t, (node, other_slot c apart other ∙ has, binds), head)
  ]

  parent_heads : KnowsHeads (tree_of new) taken.after.content
  parent_heads =
      let distinct = permuted_distinct taken.loses.children (key ∷ stay) (IsPermutation-sym (key ∷ stay) taken.loses.children stay_are) (children_distinct (tree_of old) taken.parent (node_of taken.above) taken.loses.split taken.loses.children kept.legal above_had taken.loses.was) in
      known_from (tree_of new) taken.after.content taken.loses.split stay taken.loses.is
      (subst (λ hs. AreHeadsOf (tree_of new) taken.loses.split hs stay) (sym taken.loses.heads)
      (heads_each (tree_of old) (tree_of new) taken.loses.split (swap_remove (heads_of taken.above.content) taken.loses.place taken.loses.head) stay
      (λ c h a. keeps_heads taken.loses.split c h (λ e. distinct.0 (subst (IsAmong stay) e a)))
      (heads_swapped (tree_of old) taken.loses.split taken.loses.place (heads_of taken.above.content) taken.loses.children taken.loses.head key
      (known_told (tree_of old) taken.above.content taken.loses.split taken.loses.children taken.loses.was (kept.heads taken.parent taken.above taken.had_above)))))

  other_heads : (k : ℕ) (x : TreeNode) → k ≢ taken.parent → get old.nodes k ≡ Some x → KnowsHeads (tree_of new) x.content
  other_heads k x apart got = by (content_of x.content) refl where
    by : (c : trees.Content) → content_of x.content ≡ c → KnowsHeads (tree_of new) x.content
    by (leaf ps) e = leaf_known (tree_of new) x.content ps e
    by (inner m cs) e =
        known_from (tree_of new) x.content m cs e
        (heads_each (tree_of old) (tree_of new) m (heads_of x.content) cs
        (λ c h a. keeps_heads m c h (λ f. apart (only_parent (tree_of old) key taken.parent k (node_of taken.node) (node_of x) m cs kept.legal had taken.below (node_read old.nodes.slots k x got) e (subst (IsAmong cs) f a))))
        (known_told (tree_of old) x.content m cs e (kept.heads k x got)))

  -- ---- which node it is
  data Which (k : ℕ) (x : TreeNode) : Type 0 where
    is_parent : taken.after ≡ x → Which k x
    is_other : k ≢ taken.parent → get old.nodes k ≡ Some x → Which k x

  which : (k : ℕ) (x : TreeNode) → get nodes k ≡ Some x → Which k x
  which k x got = elim (cases_eq k taken.parent) as (λ _. Which k x) [
    | inl e ↦ is_parent (same_Some taken.after x (sym taken.above_at ∙ ap (get nodes) (sym e) ∙ got))
    | inr a ↦ is_other a (sym (taken.others k (λ e. differ (sym taken.gone ∙ ap (get nodes) (sym e) ∙ got)) a) ∙ got)
  ] where
    differ : None ≡ Some x → ⊥
    differ f = cc

  whole_at : (k : ℕ) (x : TreeNode) → Which k x → AreWhole x.bindings
  whole_at k x (is_parent e) = subst (λ n. AreWhole n.bindings) e (subst AreWhole (sym taken.loses.bindings) (kept.whole taken.parent taken.above taken.had_above))
  whole_at k x (is_other a got) = kept.whole k x got

  heads_at : (k : ℕ) (x : TreeNode) → Which k x → KnowsHeads (tree_of new) x.content
  heads_at k x (is_parent e) = subst (λ n. KnowsHeads (tree_of new) n.content) e parent_heads
  heads_at k x (is_other a got) = other_heads k x a got

  -- ---- the whole
  leaves_fewer : counted leaves_of (tree_of new).nodes + 1 ≡ counted leaves_of (tree_of old).nodes
  leaves_fewer = omega (arith, taken.counts leaves_of, ap leaves_of was_leaf, ap leaves_of taken.loses.was, ap leaves_of taken.loses.is)

  unmerged_fewer : counted unmerged_of (tree_of new).nodes + 1 ≡ counted unmerged_of (tree_of old).nodes
  unmerged_fewer = omega (arith, taken.counts unmerged_of, ap unmerged_of was_leaf, ap unmerged_of taken.loses.was, ap unmerged_of taken.loses.is)

  pub drop_kept : IsKept (without_leaf old nodes)
  drop_kept = record {
    legal = dropped.0;
    whole = λ k x got. whole_at k x (which k x got);
    heads = λ k x got. heads_at k x (which k x got);
    leaves = omega (arith, kept.leaves, leaves_fewer);
    unmerged = omega (arith, kept.unmerged, unmerged_fewer);
  }

  pub drop_done : Drops (tree_of old) (tree_of (without_leaf old nodes)) key None
  drop_done = record {
    goes = drops;
    stays = dropped.1;
    keeps = dropped.2;
    nodes = omega (arith, taken.counts (λ content. 1));
    leaves = leaves_fewer;
    unmerged = unmerged_fewer;
  }
