-- How a tree is kept, and which tree that is.
use Rattle.std.specs.Prelude.{◌≡◌, ◌≢◌, ℕ, ◌+◌, ◌^◌, ◌<◌, List, [], ◌∷◌, ◌++◌, Option, None, Some, map, length, slice_set, vec_capacity}
use Rattle.slab.specs.Slab.{Slab, get, slab_len, HasRoomFor}
use Rattle.si_defs.specs.Substitutions.{IsAmong, AreDistinct}
use Rattle.si_flat.specs.Cells.{Term}
use Rattle.si_flat.specs.Rows.{CellPair, AreWhole}
use Rattle.si_legal.specs.declared.Posting.{Posting}
use Rattle.si_legal.specs.Counts.{counted, leaf_count, unmerged_count}
use Rattle.si_legal.specs.Trees.{inner, leaf, Node, Tree}
use Rattle.si_legal.specs.Trees as trees
use Rattle.si_legal.specs.Legal.{IsLegal}
use Rattle.si_tree.specs.declared.node.Branches.{Branches}
use Rattle.si_tree.specs.Nodes.{Content, Fork, Inner, One, Many, TreeNode}
use Rattle.si_tree.specs.declared.node.Head.{Head}
use Rattle.si_tree.specs.declared.tree.Tree.TheInside.{Inside}
use Rattle.si_tree.specs.Decoding.{bindings_of}
use Rattle.si_tree.specs.Forks.{fork_children, fork_heads, fork_split}
use Rattle.si_tree.specs.Reading.{postings_of}
use Rattle.si_tree.specs.Heads.{AreHeadsOf, StandTogether}
use Rattle.si_tree.specs.KeptHeads.{heads_in, HasRoomForHead}
use Rattle.si_tree.specs.Rights.{head_in}
use Rattle.si_tree.specs.Slots.{standing}

abbrev pub content_of : Content → trees.Content
content_of (Fork fork) = inner (fork_split fork) (fork_children fork)
content_of (Inner branches) = inner branches.split branches.children.items
content_of (One slot) = leaf (standing (slot ∷ []))
content_of (Many postings) = leaf postings

-- the heads beside the children
abbrev pub heads_of : Content → List Head
heads_of (Fork fork) = fork_heads fork
heads_of (Inner branches) = heads_in branches.heads
heads_of (One slot) = []
heads_of (Many postings) = []

abbrev pub node_of : TreeNode → Node Term
node_of n = record {
  parent = n.parent;
  bindings = bindings_of n.bindings;
  content = content_of n.content;
}

abbrev pub node_in_slot : Option TreeNode → Option (Node Term)
node_in_slot None = None
node_in_slot (Some n) = Some (node_of n)

abbrev pub tree_of : Inside → Tree Term
tree_of t = record {
  nodes = map node_in_slot t.nodes.slots;
  root = t.root;
  next = t.next;
  vars = t.vars;
}

-- these heads are those of the children; a leaf has none
abbrev pub AreKnown : Tree Term → trees.Content → List Head → Type 0
AreKnown tree (inner split children) heads = AreHeadsOf tree split heads children
AreKnown tree (leaf postings) heads = heads ≡ []

-- the heads beside the children are theirs
abbrev pub KnowsHeads : Tree Term → Content → Type 0
KnowsHeads tree content = AreKnown tree (content_of content) (heads_of content)

pub record IsKept (t : Inside) : Type 0 where
  pub legal : IsLegal (tree_of t)
  pub whole : (key : ℕ) (n : TreeNode) → get t.nodes key ≡ Some n → AreWhole n.bindings
  pub heads : (key : ℕ) (n : TreeNode) → get t.nodes key ≡ Some n
      → KnowsHeads (tree_of t) n.content
  pub leaves : t.leaves ≡ leaf_count (tree_of t)
  pub unmerged : t.unmerged ≡ unmerged_count (tree_of t)

-- ---- one node
abbrev pub IsLeafNode : TreeNode → Type 0
IsLeafNode n = (postings : List Posting) × (content_of n.content ≡ leaf postings)

abbrev pub IsInnerNode : TreeNode → Type 0
IsInnerNode n = (split : ℕ) × (children : List ℕ) × (content_of n.content ≡ inner split children)

abbrev pub postings_in : TreeNode → List Posting
postings_in n = postings_of (content_of n.content)

-- a leaf that may differ in its postings alone
pub record IsSameBut (old new : TreeNode) : Type 0 where
  pub parent : new.parent ≡ old.parent
  pub bindings : new.bindings ≡ old.bindings
  pub leaf_still : IsLeafNode new

-- the same node, with other memory
pub record IsSameNode (old new : TreeNode) : Type 0 where
  pub parent : new.parent ≡ old.parent
  pub bindings : new.bindings ≡ old.bindings
  pub content : content_of new.content ≡ content_of old.content
  pub heads : heads_of new.content ≡ heads_of old.content

-- lists with room for a child
abbrev pub HaveRoom : Branches → Type 0
HaveRoom b = HasRoomForHead b.heads × (length b.children.items < vec_capacity b.children)

-- an inner node with room for a child
abbrev pub HasRoomIn : Content → Type 0
HasRoomIn (Fork fork) = length (fork_heads fork) < 2
HasRoomIn (Inner branches) = HaveRoom branches
HasRoomIn (One slot) = ⊥
HasRoomIn (Many postings) = ⊥

abbrev pub HasRoomForChild : TreeNode → Type 0
HasRoomForChild n = HasRoomIn n.content

-- the inner node has one child more
pub record GainsChild (old new : TreeNode) (head : Head) (child : ℕ) : Type 0 where
  pub split : ℕ
  pub children : List ℕ
  pub parent : new.parent ≡ old.parent
  pub bindings : new.bindings ≡ old.bindings
  pub was : content_of old.content ≡ inner split children
  pub is : content_of new.content ≡ inner split (children ++ child ∷ [])
  pub heads : heads_of new.content ≡ heads_of old.content ++ head ∷ []

-- ---- a child in the place of another
pub record IsReplaced {X : Type 0} (old : List X) (x y : X) (new : List X) : Type 0 where
  pub front : List X
  pub back : List X
  pub old_is : old ≡ front ++ x ∷ back
  pub new_is : new ≡ front ++ y ∷ back

-- an inner node whose child with this head this is; no two of its children have the same head
pub record HasChildBy (n : TreeNode) (head : Head) (child : ℕ) : Type 0 where
  pub split : ℕ
  pub children : List ℕ
  pub content : content_of n.content ≡ inner split children
  pub together : StandTogether (heads_of n.content) children head child
  pub distinct : AreDistinct (heads_of n.content)

pub record RelinksChild (old new : TreeNode) (child other : ℕ) : Type 0 where
  pub split : ℕ
  pub children : List ℕ
  pub after : List ℕ
  pub parent : new.parent ≡ old.parent
  pub bindings : new.bindings ≡ old.bindings
  pub was : content_of old.content ≡ inner split children
  pub is : content_of new.content ≡ inner split after
  pub replaced : IsReplaced children child other after
  pub heads : heads_of new.content ≡ heads_of old.content

abbrev pub moved_below : TreeNode → ℕ → List CellPair → TreeNode
moved_below n parent bindings =
    record { parent = Some parent; bindings = bindings; content = n.content }

-- ---- new nodes
-- it binds nothing, and splits on indicator 0
pub record IsNewRoot (n : TreeNode) : Type 0 where
  pub parent : n.parent ≡ None
  pub binds : n.bindings ≡ []
  pub content : content_of n.content ≡ inner 0 []
  pub heads : heads_of n.content ≡ []

pub record IsFork (parent : ℕ) (bindings : List CellPair) (split : ℕ) (head : Head) (child : ℕ)
    (n : TreeNode) : Type 0 where
  pub below : n.parent ≡ Some parent
  pub binds : n.bindings ≡ bindings
  pub children : content_of n.content ≡ inner split (child ∷ [])
  pub heads : heads_of n.content ≡ head ∷ []
  pub room : HasRoomForChild n

pub record IsLeafWith (bindings : List CellPair) (p : Posting) (n : TreeNode) : Type 0 where
  pub binds : n.bindings ≡ bindings
  pub content : content_of n.content ≡ leaf (p ∷ [])

-- ---- many nodes
-- an inner node, whose children have different heads
pub record IsInnerAt (nodes : Slab TreeNode) (key : ℕ) : Type 0 where
  pub node : TreeNode
  pub has : get nodes key ≡ Some node
  pub inner_node : IsInnerNode node
  pub distinct : AreDistinct (heads_of node.content)

-- a node and the one above it, whose child by this head it is; it gives that one's split a term of
-- this head
pub record IsBelowBy (nodes : Slab TreeNode) (key parent : ℕ) (head : Head) : Type 0 where
  pub node : TreeNode
  pub above : TreeNode
  pub has : get nodes key ≡ Some node
  pub has_above : get nodes parent ≡ Some above
  pub child : HasChildBy above head key
  pub binds : head_in node.bindings child.split ≡ Some head

-- the node stands below the other one, by some head
abbrev pub IsBelow : Slab TreeNode → ℕ → ℕ → Type 0
IsBelow nodes key parent = (head : Head) × IsBelowBy nodes key parent head

-- the nodes stay, but for memory in the one with this key
pub record StaySame (old new : Slab TreeNode) (key : ℕ) : Type 0 where
  pub before : TreeNode
  pub after : TreeNode
  pub had : get old key ≡ Some before
  pub slots : new.slots ≡ slice_set old.slots key (Some after)
  pub same : IsSameNode before after

-- the keys of all nodes there is room for are numbers of 32 bits
abbrev pub HaveShortKeys : Slab TreeNode → Type 0
HaveShortKeys nodes = nodes.capacity < 2 ^ 32

-- there is room for one more node, and for one more child of this one
pub record HasRoomBelow (nodes : Slab TreeNode) (key : ℕ) : Type 0 where
  pub node : HasRoomFor nodes 1
  pub named : HaveShortKeys nodes
  pub child : (n : TreeNode) → get nodes key ≡ Some n → HasRoomForChild n

-- what an inner node between a node and its parent needs, with another child by this head
pub record MayPutBetween (nodes : Slab TreeNode) (key parent : ℕ) (fork : TreeNode) (head : Head)
    : Type 0 where
  pub room : HasRoomFor nodes 2
  pub named : HaveShortKeys nodes
  pub room_below : HasRoomForChild fork
  pub new_head : IsAmong (heads_of fork.content) head → ⊥
  pub below : IsBelow nodes key parent
  pub apart : key ≢ parent

-- The new inner node and the new leaf have these keys. The first has one child already, the node.
pub record IsPutBetween (old new : Slab TreeNode) (key parent : ℕ) (fork : TreeNode)
    (rest : List CellPair) (leaf_node : TreeNode) (head : Head) (fork_key leaf_key : ℕ)
    : Type 0 where
  pub node : TreeNode
  pub above : TreeNode
  pub linked : TreeNode
  pub forked : TreeNode
  pub had : get old key ≡ Some node
  pub had_above : get old parent ≡ Some above
  pub fork_vacant : get old fork_key ≡ None
  pub leaf_vacant : get old leaf_key ≡ None
  pub apart : fork_key ≢ leaf_key
  pub fork_at : get new fork_key ≡ Some forked
  pub gains : GainsChild fork forked head leaf_key
  pub leaf_at : get new leaf_key
      ≡ Some (moved_below leaf_node fork_key leaf_node.bindings)
  pub node_at : get new key ≡ Some (moved_below node fork_key rest)
  pub above_at : get new parent ≡ Some linked
  pub relinks : RelinksChild above linked key fork_key
  pub others : (k : ℕ) → k ≢ key → k ≢ parent → k ≢ fork_key → k ≢ leaf_key
      → get new k ≡ get old k
  pub counts : (count : trees.Content → ℕ)
      → counted count (map node_in_slot new.slots) + count (content_of above.content)
      ≡ counted count (map node_in_slot old.slots) + count (content_of forked.content)
      + count (content_of leaf_node.content) + count (content_of linked.content)
  pub number : slab_len new ≡ slab_len old + 2
