-- What the code of a split has at hand.
use Rattle.std.proofs.Common.{◌≡◌, ℕ, ◌+◌, List, [], ◌∷◌, None, Some, Option, inl, sym, ◌∙◌, ap, subst}
use Rattle.std.specs.Prelude.{slice_get}
use Rattle.std.proofs.lemmas.Option.{same_Some}
use Rattle.slab.specs.Slab.{Slab, HasRoomFor}
use Rattle.si_defs.specs.Substitutions.{IsAmong}
use Rattle.si_flat.specs.Cells.{Term}
use Rattle.si_flat.specs.Rows.{CellPair, left_sides}
use Rattle.si_legal.specs.declared.Posting.{Posting}
use Rattle.si_legal.specs.Bindings.{Binding}
use Rattle.si_legal.specs.Trees.{Tree}
use Rattle.si_legal.specs.Legal.{IsLegalContent}
use Rattle.si_changes.specs.Splits.{Parts, MaySplitNode}
use Rattle.si_changes.proofs.OpenLaws.{no_return}
use Rattle.si_tree.specs.declared.node.Head.{Head}
use Rattle.si_tree.specs.Nodes.{TreeNode}
use Rattle.si_tree.specs.declared.tree.Tree.TheInside.{Inside}
use Rattle.si_tree.specs.Decoding.{term_of, bindings_of}
use Rattle.si_tree.specs.KeptNodes.{tree_of, heads_of, IsKept, IsBelow, MayPutBetween, HasRoomForChild, HaveShortKeys}
use Rattle.si_tree.specs.Reading.{AtNode}
use Rattle.si_tree.proofs.SlotLaws.{stood}
use Rattle.si_tree.proofs.BelowLaws.{is_below}
use Rattle.si_tree.proofs.RoomLaws.{with_nodes}

-- ---- more room
pub reserved_kept : (old : Inside) (nodes : Slab TreeNode) (n : ℕ) → IsKept old → nodes ≡ record old.nodes { capacity = n } → IsKept (with_nodes old nodes)
reserved_kept old nodes n kept e = subst (λ s. IsKept (with_nodes old s)) (sym e) (record {
  legal = kept.legal;
  whole = kept.whole;
  heads = kept.heads;
  leaves = kept.leaves;
  unmerged = kept.unmerged;
})

pub reserved_tree : (old : Inside) (nodes : Slab TreeNode) (n : ℕ) → nodes ≡ record old.nodes { capacity = n } → tree_of (with_nodes old nodes) ≡ tree_of old
reserved_tree old nodes n e = ap (λ s. tree_of (with_nodes old s)) e

-- ---- the parent
pub parent_known : (tree : Tree Term) (key : ℕ) (parts : Parts) (others : List Binding) (p : Posting) (may : MaySplitNode tree key parts others p) (r : Option ℕ) (parent : ℕ) → AtNode tree key (λ n. r ≡ n.parent) → r ≡ Some parent → may.parent ≡ parent
parent_known tree key parts others p may r parent told is =
    same_Some may.parent parent (sym may.reached.2.0 ∙ sym (told may.node may.reached.1) ∙ is)

pub may_put : (old : Inside) (key parent : ℕ) (parts : Parts) (others : List Binding) (p : Posting) (fork : TreeNode) (head : Head) → IsKept old → (may : MaySplitNode (tree_of old) key parts others p) → may.parent ≡ parent → HasRoomFor old.nodes 2 → HaveShortKeys old.nodes → HasRoomForChild fork → (IsAmong (heads_of fork.content) head → ⊥) → MayPutBetween old.nodes key parent fork head
may_put old key parent parts others p fork head kept may is room named below new =
    let at_key = stood old.nodes.slots key may.node may.reached.1 in
    let at_parent = stood old.nodes.slots may.parent may.parent_node may.reached.2.1 in
    let h = kept.legal.nodes may.parent may.parent_node may.reached.2.1 in
    let children = (subst (IsLegalContent (tree_of old) may.parent ((may.parent, may.parent_node) ∷ h.above)) may.inner_node h.content).1 in
    let content = ap (λ n. n.content) at_parent.read ∙ may.inner_node in
    record {
      room = room;
      named = named;
      room_below = below;
      new_head = new;
      below = subst (IsBelow old.nodes key) is (is_below old kept may.parent at_parent.kept may.split may.children at_parent.got content key at_key.kept at_key.got ((children key).1 (may.node, may.reached.1, may.reached.2.0)));
      apart = λ e. no_return (tree_of old) key may.node ((may.parent, may.parent_node) ∷ may.above) may.reached (inl (is ∙ sym e));
    }

-- ---- the first left side
pub record IsFirstLeft (cells : List CellPair) (n : ℕ) : Type 0 where
  pub right : Term
  pub more : List Binding
  pub is : bindings_of cells ≡ (n, right) ∷ more

pub first_left : (cells : List CellPair) (n : ℕ) → slice_get (left_sides cells) 0 ≡ Some n → IsFirstLeft cells n
first_left [] n e = absurd (by e) where
  by : None ≡ Some n → ⊥
  by f = cc
first_left (c ∷ cells) n e = record { right = term_of c.1; more = bindings_of cells; is = ap (λ k. (k, term_of c.1) ∷ bindings_of cells) (same_Some c.0 n e) }

-- ---- what is written
abbrev pub made_split : Inside → Slab TreeNode → ℕ → ℕ → Inside
made_split old nodes next vars = record {
  alloc = old.alloc;
  nodes = nodes;
  root = old.root;
  next = next;
  vars = vars;
  leaves = old.leaves + 1;
  unmerged = old.unmerged;
  renumbered_next = old.renumbered_next;
}
