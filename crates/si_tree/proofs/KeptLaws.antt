-- What stays kept where nodes change.
use Rattle.std.proofs.Common.{◌≡◌, ◌≢◌, ℕ, List, [], ◌∷◌, None, Some, map, get_or, inl, inr, refl, sym, ◌∙◌, ap, subst, arith, ◌⊎◌, ◌+◌, slice_set}
use Rattle.std.proofs.Math.Seq.{map-set_same}
use Rattle.std.proofs.lemmas.Bool.{cases_eq}
use Rattle.std.proofs.lemmas.Option.{same_Some}
use Rattle.slab.specs.Slab.{get, Updates}
use Rattle.si_defs.specs.Substitutions.{IsAmong}
use Rattle.si_flat.specs.Cells.{Term}
use Rattle.si_flat.specs.Rows.{AreWhole}
use Rattle.si_legal.specs.declared.Posting.{Posting}
use Rattle.si_legal.specs.Trees.{inner, leaf, Node, Tree, HasNode}
use Rattle.si_legal.specs.Trees as trees
use Rattle.si_legal.specs.Legal.{IsLegal}
use Rattle.si_legal.specs.Counts.{leaves_of, unmerged_of, counted, leaf_count}
use Rattle.si_changes.specs.Nodes.{with_content, OtherNodesStay, ChangesPostings}
use Rattle.si_tree.specs.declared.node.Head.{Head}
use Rattle.si_tree.specs.Nodes.{TreeNode, Content, Fork, Inner, One, Many}
use Rattle.si_tree.specs.declared.tree.Tree.TheInside.{Inside}
use Rattle.si_tree.specs.Decoding.{bindings_of}
use Rattle.si_tree.specs.KeptNodes.{node_of, node_in_slot, tree_of, content_of, heads_of, AreKnown, KnowsHeads, IsKept, IsLeafNode, IsSameBut, postings_in}
use Rattle.si_tree.specs.Heads.{HeadsAt, AreHeadsOf}
use Rattle.si_tree.specs.Reading.{postings_of}
use Rattle.si_tree.proofs.SlotLaws.{slot_read, node_read}
use Rattle.si_tree.proofs.CountLaws.{weight, counted_changed}
use Rattle.si_tree.proofs.ChildLaws.{inner_no_leaf}

-- ---- nodes that keep their bindings
abbrev pub KeepsBindings : Tree Term → Tree Term → Type 0
KeepsBindings old new =
    (key : ℕ) (node : Node Term) → HasNode old key node
    → (other : Node Term) × HasNode new key other × (other.bindings ≡ node.bindings)

head_over : (old new : Tree Term) (split child : ℕ) (h : Head) → KeepsBindings old new → HeadsAt old split child h → HeadsAt new split child h
head_over old new split child h keeps (t, (node, has, binds), head) =
    let found = keeps child node has in
    (t, (found.0, found.1, subst (λ bs. IsAmong bs (split, t)) (sym found.2) binds), head)

pub heads_over : (old new : Tree Term) (split : ℕ) (heads : List Head) (children : List ℕ) → KeepsBindings old new → AreHeadsOf old split heads children → AreHeadsOf new split heads children
heads_over old new split [] [] keeps are = tt
heads_over old new split [] (c ∷ cs) keeps are = absurd are
heads_over old new split (h ∷ hs) [] keeps are = absurd are
heads_over old new split (h ∷ hs) (c ∷ cs) keeps are = (head_over old new split c h keeps are.0, heads_over old new split hs cs keeps are.1)

pub known_over : (old new : Tree Term) (content : Content) → KeepsBindings old new → KnowsHeads old content → KnowsHeads new content
known_over old new content keeps known = by (content_of content) known where
  by : (c : trees.Content) → AreKnown old c (heads_of content) → AreKnown new c (heads_of content)
  by (inner split children) are = heads_over old new split (heads_of content) children keeps are
  by (leaf postings) none = none

-- a leaf has no heads
pub leaf_known : (tree : Tree Term) (content : Content) (postings : List Posting) → content_of content ≡ leaf postings → KnowsHeads tree content
leaf_known tree (Fork f) postings e = absurd (inner_no_leaf _ _ postings e)
leaf_known tree (Inner b) postings e = absurd (inner_no_leaf _ _ postings e)
leaf_known tree (One slot) postings e = refl
leaf_known tree (Many ps) postings e = refl

-- ---- one leaf with other postings
pub record ChangesLeaf (old new : Inside) (key : ℕ) (n m : TreeNode) : Type 0 where
  pub got : get old.nodes key ≡ Some n
  pub updates : Updates old.nodes new.nodes key (Some m)
  pub same : IsSameBut n m
  pub was_leaf : IsLeafNode n
  pub root : new.root ≡ old.root
  pub next : new.next ≡ old.next
  pub vars : new.vars ≡ old.vars

module _ (old new : Inside) (key : ℕ) (n m : TreeNode) (change : ChangesLeaf old new key n m) where
  had : HasNode (tree_of old) key (node_of n)
  had = node_read old.nodes.slots key n change.got

  has : HasNode (tree_of new) key (node_of m)
  has = node_read new.nodes.slots key m change.updates.changed

  other_slot : (k : ℕ) → k ≢ key → get_or (map node_in_slot new.nodes.slots) k None ≡ get_or (map node_in_slot old.nodes.slots) k None
  other_slot k apart = slot_read new.nodes.slots k ∙ ap node_in_slot (change.updates.others k apart) ∙ sym (slot_read old.nodes.slots k)

  others : OtherNodesStay (tree_of old) (tree_of new) (key ∷ [])
  others k none = other_slot k (λ e. none (inl (sym e)))

  new_is : (after : List Posting) → content_of m.content ≡ leaf after → node_of m ≡ with_content (node_of n) (leaf after)
  new_is after e = λ i. record { parent = change.same.parent i; bindings = bindings_of (change.same.bindings i); content = e i }

  pub changes : (before after : List Posting) → content_of n.content ≡ leaf before → content_of m.content ≡ leaf after → ChangesPostings (tree_of old) (tree_of new) key before after
  changes before after was is = record {
    node = node_of n;
    had = had;
    content = was;
    has = has ∙ ap Some (new_is after is);
    others = others;
    root = change.root;
    next = change.next;
    vars = change.vars;
  }

  keeps_bindings : KeepsBindings (tree_of old) (tree_of new)
  keeps_bindings k node there = elim (cases_eq k key) as (λ _. (other : Node Term) × HasNode (tree_of new) k other × (other.bindings ≡ node.bindings)) [
    | inl same ↦ (
      node_of m,
      subst (λ j. HasNode (tree_of new) j (node_of m)) (sym same) has,
      ap bindings_of change.same.bindings ∙ ap (λ x. x.bindings) (same_Some (node_of n) node (sym had ∙ subst (λ j. HasNode (tree_of old) j node) same there)),
    )
    | inr apart ↦ (node, other_slot k apart ∙ there, refl)
  ]

  counts_change : (count : trees.Content → ℕ) → counted count (tree_of new).nodes + count (content_of n.content) ≡ counted count (tree_of old).nodes + count (content_of m.content)
  counts_change count =
      ap (λ x. counted count (tree_of new).nodes + weight count x) (sym had)
      ∙ counted_changed count (map node_in_slot old.nodes.slots) (map node_in_slot new.nodes.slots) key other_slot
      ∙ ap (λ x. counted count (tree_of old).nodes + weight count x) has

  leaves_same : leaf_count (tree_of new) ≡ leaf_count (tree_of old)
  leaves_same =
      let one : leaves_of (content_of n.content) ≡ 1 = ap leaves_of change.was_leaf.1 in
      let two : leaves_of (content_of m.content) ≡ 1 = ap leaves_of change.same.leaf_still.1 in
      omega (arith, one, two, counts_change leaves_of)

  pub leaf_kept : IsKept old → IsLegal (tree_of new) → new.leaves ≡ old.leaves → new.unmerged + unmerged_of (content_of n.content) ≡ old.unmerged + unmerged_of (content_of m.content) → IsKept new
  leaf_kept kept legal leaves unmerged = record {
    legal = legal;
    whole = whole;
    heads = heads;
    leaves = leaves ∙ kept.leaves ∙ sym leaves_same;
    unmerged = omega (arith, unmerged, kept.unmerged, counts_change unmerged_of);
  } where
    was : (k : ℕ) (x : TreeNode) → get new.nodes k ≡ Some x → (get old.nodes k ≡ Some x) ⊎ (m ≡ x)
    was k x there = elim (cases_eq k key) as (λ _. (get old.nodes k ≡ Some x) ⊎ (m ≡ x)) [
      | inl same ↦ inr (same_Some m x (sym change.updates.changed ∙ ap (get new.nodes) (sym same) ∙ there))
      | inr apart ↦ inl (sym (change.updates.others k apart) ∙ there)
    ]

    whole : (k : ℕ) (x : TreeNode) → get new.nodes k ≡ Some x → AreWhole x.bindings
    whole k x there = elim (was k x there) as (λ _. AreWhole x.bindings) [
      | inl before ↦ kept.whole k x before
      | inr same ↦ subst (λ y. AreWhole y.bindings) same (subst AreWhole (sym change.same.bindings) (kept.whole key n change.got))
    ]

    heads : (k : ℕ) (x : TreeNode) → get new.nodes k ≡ Some x → KnowsHeads (tree_of new) x.content
    heads k x there = elim (was k x there) as (λ _. KnowsHeads (tree_of new) x.content) [
      | inl before ↦ known_over (tree_of old) (tree_of new) x.content keeps_bindings (kept.heads k x before)
      | inr same ↦ subst (λ y. KnowsHeads (tree_of new) y.content) same (leaf_known (tree_of new) m.content change.same.leaf_still.0 change.same.leaf_still.1)
    ]

leaves_equal : (c d : trees.Content) → ((ps : List Posting) × (c ≡ leaf ps)) → ((ps : List Posting) × (d ≡ leaf ps)) → postings_of c ≡ postings_of d → c ≡ d
leaves_equal c d (ps, p) (qs, q) e = p ∙ ap leaf (sym (ap postings_of p) ∙ e ∙ ap postings_of q) ∙ sym q

-- ---- where nothing changed for the tree
pub same_tree : (old new : Inside) (key : ℕ) (n m : TreeNode) → ChangesLeaf old new key n m → new.nodes.slots ≡ slice_set old.nodes.slots key (Some m) → postings_in m ≡ postings_in n → tree_of new ≡ tree_of old
same_tree old new key n m change set same =
    λ i. record { nodes = nodes i; root = change.root i; next = change.next i; vars = change.vars i } where
      content : content_of m.content ≡ content_of n.content
      content = leaves_equal (content_of m.content) (content_of n.content) change.same.leaf_still change.was_leaf same

      node : node_of m ≡ node_of n
      node = λ i. record { parent = change.same.parent i; bindings = bindings_of (change.same.bindings i); content = content i }

      nodes : map node_in_slot new.nodes.slots ≡ map node_in_slot old.nodes.slots
      nodes = ap (map node_in_slot) set ∙ map-set_same node_in_slot old.nodes.slots key (Some m) None (ap Some node ∙ sym (ap node_in_slot change.got))
