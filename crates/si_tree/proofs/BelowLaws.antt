-- The head by which a node of a kept tree stands below another one.
use Rattle.std.proofs.Common.{◌≡◌, ℕ, List, ◌∷◌, Option, None, Some, refl, sym, ap, subst}
use Rattle.slab.specs.Slab.{get}
use Rattle.si_defs.specs.Substitutions.{IsAmong, AreDistinct}
use Rattle.si_flat.specs.Cells.{Term}
use Rattle.si_flat.specs.Rows.{CellPair, left_sides, AreWhole}
use Rattle.si_legal.specs.Trees.{inner}
use Rattle.si_legal.specs.Legal.{IsLegalContent}
use Rattle.si_legal.proofs.PathLaws.{one_node}
use Rattle.si_legal.proofs.SplitLaws.{binding_left}
use Rattle.si_changes.proofs.Frames.{legal_nodes, one_right}
use Rattle.si_tree.specs.declared.node.Head.{Head}
use Rattle.si_tree.specs.Nodes.{TreeNode}
use Rattle.si_tree.specs.declared.tree.Tree.TheInside.{Inside}
use Rattle.si_tree.specs.Decoding.{bindings_of}
use Rattle.si_tree.specs.Heads.{HasHead}
use Rattle.si_tree.specs.KeptNodes.{node_of, tree_of, content_of, heads_of, IsKept, IsBelow}
use Rattle.si_tree.specs.Rights.{head_in}
use Rattle.si_tree.proofs.SlotLaws.{node_read}
use Rattle.si_tree.proofs.HeadLaws.{one_head, head_of_child, heads_distinct}
use Rattle.si_tree.proofs.RightLaws.{head_told, head_found, lefts_read}
use Rattle.si_tree.proofs.RoomLaws.{known_told}

-- the head of a term is what is read of its cells
head_read : (cells : List CellPair) (n : ℕ) (t : Term) (h : Head) → AreWhole cells → AreDistinct (left_sides (bindings_of cells)) → IsAmong (bindings_of cells) (n, t) → HasHead t h → head_in cells n ≡ Some h
head_read cells n t h whole distinct among has = by (head_in cells n) refl where
  right : (u : Term) → IsAmong (bindings_of cells) (n, u) → t ≡ u
  right u a = one_right (bindings_of cells) n t u distinct among a

  by : (r : Option Head) → head_in cells n ≡ r → r ≡ Some h
  by None e = absurd (head_found cells n whole (subst (λ ns. IsAmong ns n) (lefts_read cells) (binding_left (bindings_of cells) n t among)) (λ u a. (h, subst (λ v. HasHead v h) (right u a) has)) e)
  by (Some k) e =
      let told = head_told cells n k whole e in
      ap Some (one_head t k h (subst (λ v. HasHead v k) (sym (right told.0 told.1)) told.2) has)

module _ (t : Inside) (kept : IsKept t) (parent : ℕ) (a : TreeNode) (split : ℕ) (children : List ℕ) (got : get t.nodes parent ≡ Some a) (content : content_of a.content ≡ inner split children) where
  -- its children have different heads
  pub distinct_heads : AreDistinct (heads_of a.content)
  distinct_heads =
      let h = kept.legal.nodes parent (node_of a) (node_read t.nodes.slots parent a got) in
      heads_distinct (tree_of t) split (heads_of a.content) children (legal_nodes (tree_of t) kept.legal)
      (known_told (tree_of t) a.content split children content (kept.heads parent a got))
      (subst (IsLegalContent (tree_of t) parent ((parent, node_of a) ∷ h.above)) content h.content).2

  pub is_below : (key : ℕ) (n : TreeNode) → get t.nodes key ≡ Some n → IsAmong children key → IsBelow t.nodes key parent
  is_below key n there among =
      let found = head_of_child (tree_of t) split (heads_of a.content) children key (known_told (tree_of t) a.content split children content (kept.heads parent a got)) among in
      let has = node_read t.nodes.slots key n there in
      let binds = subst (λ x. IsAmong x.bindings (split, found.2.0)) (one_node (tree_of t) key found.2.1.0 (node_of n) found.2.1.1 has) found.2.1.2 in (
        found.0,
        record {
          node = n;
          above = a;
          has = there;
          has_above = got;
          child = record { split = split; children = children; content = content; together = found.1; distinct = distinct_heads };
          binds = head_read n.bindings split found.2.0 found.0 (kept.whole key n there) (kept.legal.nodes key (node_of n) has).binds.distinct binds found.2.2;
        },
      )
