-- Memory made ready changes no tree.
use Rattle.std.proofs.Common.{◌≡◌, ℕ, List, None, Some, map, inl, inr, sym, ◌∙◌, ap, subst, ◌⊎◌}
use Rattle.std.specs.Prelude.{is_some}
use Rattle.std.proofs.Math.Seq.{map-set_same}
use Rattle.std.proofs.lemmas.Bool.{cases_eq}
use Rattle.std.proofs.lemmas.Option.{same_Some}
use Rattle.slab.specs.Slab.{Slab, get, Updates}
use Rattle.slab.proofs.SlabLemmas.{Updates-set, ContainsKey-within}
use Rattle.si_flat.specs.Cells.{Term}
use Rattle.si_flat.specs.Rows.{AreWhole}
use Rattle.si_legal.specs.Trees.{inner, Tree}
use Rattle.si_legal.specs.Legal.{IsLegal}
use Rattle.si_legal.specs.Counts.{leaf_count, unmerged_count}
use Rattle.si_tree.specs.Nodes.{TreeNode, Content}
use Rattle.si_tree.specs.declared.tree.Tree.TheInside.{Inside}
use Rattle.si_tree.specs.Decoding.{bindings_of}
use Rattle.si_tree.specs.Heads.{AreHeadsOf}
use Rattle.si_tree.specs.KeptNodes.{node_of, node_in_slot, tree_of, content_of, heads_of, AreKnown, KnowsHeads, IsKept, IsSameNode, StaySame}

-- ---- heads, by what is seen of a node
pub known_told : (tree : Tree Term) (content : Content) (split : ℕ) (children : List ℕ) → content_of content ≡ inner split children → KnowsHeads tree content → AreHeadsOf tree split (heads_of content) children
known_told tree content split children e known = subst (λ c. AreKnown tree c (heads_of content)) e known

pub known_from : (tree : Tree Term) (content : Content) (split : ℕ) (children : List ℕ) → content_of content ≡ inner split children → AreHeadsOf tree split (heads_of content) children → KnowsHeads tree content
known_from tree content split children e are = subst (λ c. AreKnown tree c (heads_of content)) (sym e) are

pub known_same : (tree : Tree Term) (old new : Content) → content_of new ≡ content_of old → heads_of new ≡ heads_of old → KnowsHeads tree old → KnowsHeads tree new
known_same tree old new e heads known = subst (λ c. AreKnown tree c (heads_of new)) (sym e) (subst (AreKnown tree (content_of old)) (sym heads) known)

-- ---- a slab
pub same_node : (n m : TreeNode) → IsSameNode n m → node_of m ≡ node_of n
same_node n m same = λ i. record { parent = same.parent i; bindings = bindings_of (same.bindings i); content = same.content i }

pub same_updates : (old new : Slab TreeNode) (key : ℕ) (same : StaySame old new key) → Updates old new key (Some same.after)
same_updates old new key same = Updates-set old new key (Some same.after) (ContainsKey-within old key (ap is_some same.had)) same.slots

pub same_slots : (old new : Slab TreeNode) (key : ℕ) → StaySame old new key → map node_in_slot new.slots ≡ map node_in_slot old.slots
same_slots old new key same =
    ap (map node_in_slot) same.slots
    ∙ map-set_same node_in_slot old.slots key (Some same.after) None (ap Some (same_node same.before same.after same.same) ∙ sym (ap node_in_slot same.had))

-- ---- a kept tree
abbrev pub with_nodes : Inside → Slab TreeNode → Inside
with_nodes old nodes = record {
  alloc = old.alloc;
  nodes = nodes;
  root = old.root;
  next = old.next;
  vars = old.vars;
  leaves = old.leaves;
  unmerged = old.unmerged;
  renumbered_next = old.renumbered_next;
}

pub room_tree : (old : Inside) (nodes : Slab TreeNode) (key : ℕ) → StaySame old.nodes nodes key → tree_of (with_nodes old nodes) ≡ tree_of old
room_tree old nodes key same =
    ap (λ slots. record { nodes = slots; root = old.root; next = old.next; vars = old.vars }) (same_slots old.nodes nodes key same)

pub room_kept : (old : Inside) (nodes : Slab TreeNode) (key : ℕ) → IsKept old → StaySame old.nodes nodes key → IsKept (with_nodes old nodes)
room_kept old nodes key kept same = record {
  legal = subst IsLegal (sym tree) kept.legal;
  whole = λ k x got. elim (was k x got) as (λ _. AreWhole x.bindings) [
    | inl before ↦ kept.whole k x before
    | inr is ↦ subst (λ y. AreWhole y.bindings) is (subst AreWhole (sym same.same.bindings) (kept.whole key same.before same.had))
  ];
  heads = λ k x got. subst (λ t. KnowsHeads t x.content) (sym tree) (elim (was k x got) as (λ _. KnowsHeads (tree_of old) x.content) [
    | inl before ↦ kept.heads k x before
    | inr is ↦ subst (λ y. KnowsHeads (tree_of old) y.content) is (known_same (tree_of old) same.before.content same.after.content same.same.content same.same.heads (kept.heads key same.before same.had))
  ]);
  leaves = kept.leaves ∙ sym (ap leaf_count tree);
  unmerged = kept.unmerged ∙ sym (ap unmerged_count tree);
} where
  tree : tree_of (with_nodes old nodes) ≡ tree_of old
  tree = room_tree old nodes key same

  updates : Updates old.nodes nodes key (Some same.after)
  updates = same_updates old.nodes nodes key same

  was : (k : ℕ) (x : TreeNode) → get nodes k ≡ Some x → (get old.nodes k ≡ Some x) ⊎ (same.after ≡ x)
  was k x got = elim (cases_eq k key) as (λ _. (get old.nodes k ≡ Some x) ⊎ (same.after ≡ x)) [
    | inl e ↦ inr (same_Some same.after x (sym updates.changed ∙ ap (get nodes) (sym e) ∙ got))
    | inr apart ↦ inl (sym (updates.others k apart) ∙ got)
  ]
