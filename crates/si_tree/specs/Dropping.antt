-- How a leaf without a posting goes from a tree.
use Rattle.std.specs.Prelude.{◌≡◌, ◌≢◌, ℕ, ◌+◌, List, [], ◌∷◌, Option, None, Some, map, slice_get, IsPermutation}
use Rattle.std.specs.List.{swap_remove}
use Rattle.slab.specs.Slab.{Slab, get}
use Rattle.si_defs.specs.Substitutions.{AreDistinct}
use Rattle.si_flat.specs.Cells.{Term}
use Rattle.si_flat.specs.Rows.{CellPair}
use Rattle.si_legal.specs.Bindings.{composed, StandForBindings}
use Rattle.si_legal.specs.Counts.{counted, node_count, leaf_count, unmerged_count}
use Rattle.si_legal.specs.Trees.{inner, Node, Tree, HasNode}
use Rattle.si_legal.specs.Trees as trees
use Rattle.si_legal.specs.StoredSets.{StaysStored, KeepsLeaves}
use Rattle.si_changes.specs.Leaves.{MayDropLeaf, DropsLeaf}
use Rattle.si_changes.specs.Joins.{MayJoin, Joins}
use Rattle.si_tree.specs.declared.node.Head.{Head}
use Rattle.si_tree.specs.Nodes.{TreeNode}
use Rattle.si_tree.specs.KeptNodes.{node_in_slot, content_of, heads_of, moved_below, IsBelow, RelinksChild}

-- ---- the tree
-- the bindings of the leaf's parent composed with those of its other child
pub record MayJoinBy (tree : Tree Term) (key : ℕ) (bindings : List CellPair) : Type 0 where
  pub other : ℕ
  pub other_node : Node Term
  pub may : MayJoin tree key other
  pub has_other : HasNode tree other other_node
  pub composes : StandForBindings bindings
      (composed may.stands.parent_node.bindings other_node.bindings)

-- bindings are there exactly where the leaf's parent isn't the root and has one other child
abbrev pub MayDrop : Tree Term → ℕ → Option (List CellPair) → Type 0
MayDrop tree key None = MayDropLeaf tree key
MayDrop tree key (Some bindings) = MayJoinBy tree key bindings

-- the leaf alone goes, or its parent is joined with the other child
abbrev pub Goes : Tree Term → Tree Term → ℕ → Option (List CellPair) → Type 0
Goes old new key None = DropsLeaf old new key
Goes old new key (Some bindings) = (other : ℕ) × Joins old new key other

abbrev pub gone_with : Option (List CellPair) → ℕ
gone_with None = 1
gone_with (Some bindings) = 2

pub record Drops (old new : Tree Term) (key : ℕ) (joined : Option (List CellPair))
    : Type 0 where
  pub goes : Goes old new key joined
  pub stays : StaysStored old new
  pub keeps : KeepsLeaves old new
  pub nodes : node_count new + gone_with joined ≡ node_count old
  pub leaves : leaf_count new + 1 ≡ leaf_count old
  pub unmerged : unmerged_count new + 1 ≡ unmerged_count old

-- ---- one node
-- the child goes, and so does the head at its place; the last ones come there
pub record LosesChild (old new : TreeNode) (child : ℕ) : Type 0 where
  pub split : ℕ
  pub children : List ℕ
  pub place : ℕ
  pub head : Head
  pub parent : new.parent ≡ old.parent
  pub bindings : new.bindings ≡ old.bindings
  pub was : content_of old.content ≡ inner split children
  pub there : slice_get children place ≡ Some child
  pub is : content_of new.content ≡ inner split (swap_remove children place child)
  pub heads : heads_of new.content ≡ swap_remove (heads_of old.content) place head

abbrev pub HasBesides : TreeNode → ℕ → ℕ → Type 0
HasBesides n child other =
    (split : ℕ) × (children : List ℕ) × (content_of n.content ≡ inner split children)
    × IsPermutation (child ∷ other ∷ []) children

-- ---- a leaf alone
pub record MayTakeOut (nodes : Slab TreeNode) (key : ℕ) : Type 0 where
  pub node : TreeNode
  pub parent : ℕ
  pub has : get nodes key ≡ Some node
  pub below : node.parent ≡ Some parent
  pub child : IsBelow nodes key parent
  pub apart : parent ≢ key

pub record IsTakenOut (old new : Slab TreeNode) (key : ℕ) : Type 0 where
  pub node : TreeNode
  pub parent : ℕ
  pub above : TreeNode
  pub after : TreeNode
  pub had : get old key ≡ Some node
  pub below : node.parent ≡ Some parent
  pub had_above : get old parent ≡ Some above
  pub gone : get new key ≡ None
  pub above_at : get new parent ≡ Some after
  pub loses : LosesChild above after key
  pub others : (k : ℕ) → k ≢ key → k ≢ parent → get new k ≡ get old k
  pub counts : (count : trees.Content → ℕ)
      → counted count (map node_in_slot new.slots) + count (content_of node.content)
      + count (content_of above.content)
      ≡ counted count (map node_in_slot old.slots) + count (content_of after.content)

-- ---- a leaf and its parent
pub record MayTakeBoth (nodes : Slab TreeNode) (key : ℕ) : Type 0 where
  pub parent : ℕ
  pub other : ℕ
  pub upper : ℕ
  pub node : TreeNode
  pub parent_node : TreeNode
  pub other_node : TreeNode
  pub upper_node : TreeNode
  pub has : get nodes key ≡ Some node
  pub has_parent : get nodes parent ≡ Some parent_node
  pub has_other : get nodes other ≡ Some other_node
  pub has_upper : get nodes upper ≡ Some upper_node
  pub below : node.parent ≡ Some parent
  pub below_upper : parent_node.parent ≡ Some upper
  pub besides : HasBesides parent_node key other
  pub child : IsBelow nodes parent upper
  pub apart : AreDistinct (key ∷ parent ∷ other ∷ upper ∷ [])

pub record AreTakenOut (old new : Slab TreeNode) (key : ℕ) (bindings : List CellPair)
    (may : MayTakeBoth old key) : Type 0 where
  pub linked : TreeNode
  pub gone : get new key ≡ None
  pub parent_gone : get new may.parent ≡ None
  pub other_at : get new may.other ≡ Some (moved_below may.other_node may.upper bindings)
  pub upper_at : get new may.upper ≡ Some linked
  pub relinks : RelinksChild may.upper_node linked may.parent may.other
  pub others : (k : ℕ) → k ≢ key → k ≢ may.parent → k ≢ may.other → k ≢ may.upper
      → get new k ≡ get old k
  pub counts : (count : trees.Content → ℕ)
      → counted count (map node_in_slot new.slots) + count (content_of may.node.content)
      + count (content_of may.parent_node.content) + count (content_of may.upper_node.content)
      ≡ counted count (map node_in_slot old.slots) + count (content_of linked.content)
