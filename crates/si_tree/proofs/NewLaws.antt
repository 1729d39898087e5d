-- A slab with the root alone.
use Rattle.std.proofs.Common.{◌≡◌, ◌≢◌, ℕ, [], None, Some, map, get_or, inl, inr, refl, sym, ◌∙◌, ap, subst, arith}
use Rattle.std.proofs.lemmas.Bool.{cases_eq}
use Rattle.std.proofs.lemmas.Option.{same_Some}
use Rattle.slab.specs.Slab.{Slab, get, Updates}
use Rattle.si_flat.specs.Rows.{AreWhole}
use Rattle.si_legal.specs.Trees.{inner}
use Rattle.si_legal.specs.Trees as trees
use Rattle.si_legal.specs.Counts.{leaves_of, unmerged_of, counted}
use Rattle.si_tree.specs.Nodes.{TreeNode}
use Rattle.si_tree.specs.declared.tree.Tree.TheInside.{Inside}
use Rattle.si_tree.specs.KeptNodes.{node_of, node_in_slot, tree_of, content_of, heads_of, KnowsHeads, IsKept}
use Rattle.si_tree.specs.Decoding.{bindings_of}
use Rattle.si_tree.specs.Heads.{AreHeadsOf}
use Rattle.si_tree.specs.NewTrees.{bare_root, IsRootAlone}
use Rattle.si_tree.proofs.SlotLaws.{node_read, vacant_read}
use Rattle.si_tree.proofs.CountLaws.{weight, counted_changed}
use Rattle.si_tree.proofs.RoomLaws.{known_from}
use Rattle.si_tree.proofs.RootLaws.{root_legal}

-- the first node of a slab, and what it is
pub record IsFirst (t : Inside) (n : TreeNode) : Type 0 where
  pub old : Slab TreeNode
  pub empty : old.slots ≡ []
  pub updates : Updates old t.nodes t.root (Some n)
  pub parent : n.parent ≡ None
  pub bindings : n.bindings ≡ []
  pub content : content_of n.content ≡ inner 0 []
  pub heads : heads_of n.content ≡ []
  pub next : t.next ≡ 1
  pub vars : t.vars ≡ 0
  pub leaves : t.leaves ≡ 0
  pub unmerged : t.unmerged ≡ 0

none_before : (old : Slab TreeNode) (key : ℕ) → old.slots ≡ [] → get old key ≡ None
none_before old key e = ap (λ slots. get_or slots key None) e

module _ (t : Inside) (n : TreeNode) (first : IsFirst t n) where
  node_is : node_of n ≡ bare_root
  node_is = λ i. record { parent = first.parent i; bindings = bindings_read i; content = first.content i } where
    bindings_read : (node_of n).bindings ≡ []
    bindings_read = ap (λ bs. bindings_of bs) first.bindings

  other : (key : ℕ) → key ≢ t.root → get t.nodes key ≡ None
  other key apart = first.updates.others key apart ∙ none_before first.old key first.empty

  pub alone : IsRootAlone (tree_of t)
  alone = record {
    root = node_read t.nodes.slots t.root n first.updates.changed ∙ ap Some node_is;
    others = λ key apart. vacant_read t.nodes.slots key (other key apart);
    next = first.next;
    vars = first.vars;
  }

  only : (key : ℕ) (m : TreeNode) → get t.nodes key ≡ Some m → n ≡ m
  only key m got = elim (cases_eq key t.root) [
    | inl same ↦ same_Some n m (sym first.updates.changed ∙ ap (get t.nodes) (sym same) ∙ got)
    | inr apart ↦ absurd (differ (sym (other key apart) ∙ got))
  ] where
    differ : None ≡ Some m → ⊥
    differ e = cc

  no_heads : KnowsHeads (tree_of t) n.content
  no_heads =
      known_from (tree_of t) n.content 0 [] first.content
      (subst (λ hs. AreHeadsOf (tree_of t) 0 hs []) (sym first.heads) tt)

  none_counted : (count : trees.Content → ℕ) → count (inner 0 []) ≡ 0 → 0 ≡ counted count (tree_of t).nodes
  none_counted count none =
      let there : weight count (get_or (map node_in_slot t.nodes.slots) t.root None) ≡ 0 =
      ap (weight count) (node_read t.nodes.slots t.root n first.updates.changed) ∙ ap count first.content ∙ none in
      omega (arith, there, counted_changed count [] (map node_in_slot t.nodes.slots) t.root (λ key apart. vacant_read t.nodes.slots key (other key apart)))

  pub new_kept : IsKept t
  new_kept = record {
    legal = root_legal (tree_of t) alone;
    whole = λ key m got. subst (λ k. AreWhole k.bindings) (only key m got) (subst AreWhole (sym first.bindings) tt);
    heads = λ key m got. subst (λ k. KnowsHeads (tree_of t) k.content) (only key m got) no_heads;
    leaves = first.leaves ∙ none_counted leaves_of refl;
    unmerged = first.unmerged ∙ none_counted unmerged_of refl;
  }
