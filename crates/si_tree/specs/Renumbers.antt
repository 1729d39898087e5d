-- How the nodes of a tree are numbered anew, all after one walk over them.
use Rattle.std.specs.Prelude.{◌≡◌, ℕ, ◌<◌, ◌≤◌, List, [], ◌∷◌, length, map, Option, None, Some}
use Rattle.std.specs.List.{AllByRecursion}
use Rattle.slab.specs.Slab.{Slab, get, ContainsKey, with_value}
use Rattle.si_defs.specs.Substitutions.{IsAmong, AreDistinct}
use Rattle.si_defs.specs.declared.TheConstants.{MOST_OCCURRENCES}
use Rattle.si_flat.specs.Cells.{Term}
use Rattle.si_flat.specs.Rows.{CellPair, AreWhole}
use Rattle.si_legal.specs.declared.Posting.{Posting}
use Rattle.si_legal.specs.Renumbering.{IsRenumbered}
use Rattle.si_legal.specs.Trees.{inner, leaf, Node, Tree, HasNode, Path, IsPath, opened, IsLeaf}
use Rattle.si_legal.specs.Trees as trees
use Rattle.si_legal.specs.StoredSets.{StaysStored, KeepsLeaves}
use Rattle.si_changes.specs.Places.{renumbered_node}
use Rattle.si_tree.specs.Nodes.{Content, Fork, Inner, One, Many, TreeNode}
use Rattle.si_tree.specs.declared.renumber.Renumbered.{Renumbered}
use Rattle.si_tree.specs.declared.renumber.Renumbering.{Renumbering}
use Rattle.si_tree.specs.declared.renumber.Visit.{Visit}
use Rattle.si_tree.specs.Decoding.{bindings_of}
use Rattle.si_tree.specs.Forks.{fork_children, fork_heads}
use Rattle.si_tree.specs.Numbers.{noted_number}
use Rattle.si_tree.specs.Reading.{counts_of}

-- ---- one node
abbrev pub with_split : ℕ → Content → Content
with_split split (Fork fork) =
    Fork (split, fork_heads fork, fork_children fork)
with_split split (Inner branches) =
    Inner (record branches { split = split })
with_split split (One slot) = One slot
with_split split (Many postings) = Many postings

abbrev pub with_numbers : List CellPair → ℕ → TreeNode → TreeNode
with_numbers bindings split n = record {
  parent = n.parent;
  bindings = bindings;
  content = with_split split n.content;
}

-- the split is among the numbers that are noted
abbrev pub HasNotedSplit : trees.Content → List ℕ → Type 0
HasNotedSplit (inner split children) numbers = split < length numbers
HasNotedSplit (leaf postings) numbers = Unit {0}

abbrev pub split_in : trees.Content → List ℕ → ℕ
split_in (inner split children) numbers = noted_number numbers split
split_in (leaf postings) numbers = 0

-- ---- the walk
abbrev pub visits : ℕ → List ℕ → List Visit
visits opened children = map (λ child. record { node = child; opened = opened }) children

abbrev pub keys_of : List Renumbered → List ℕ
keys_of all = map (λ r. r.node) all

abbrev pub with_new_split : ℕ → trees.Content → trees.Content
with_new_split split (inner old children) = inner split children
with_new_split split (leaf postings) = leaf postings

-- the node with this key, below this path, is to have the numbers of their places
pub record IsToHave (tree : Tree Term) (r : Renumbered) : Type 0 where
  pub node : Node Term
  pub above : Path
  pub has : HasNode tree r.node node
  pub reached : IsPath tree node.parent above
  pub whole : AreWhole r.bindings
  pub bindings : bindings_of r.bindings ≡ (renumbered_node above node).bindings
  pub content : with_new_split r.split node.content ≡ (renumbered_node above node).content

-- each node once, and the greatest number of indicators that a path opens
pub record IsRenumbering (tree : Tree Term) (r : Renumbering) : Type 0 where
  pub each : AllByRecursion (IsToHave tree) r.nodes.items
  pub distinct : AreDistinct (keys_of r.nodes.items)
  pub complete : (key : ℕ) (node : Node Term) → HasNode tree key node
      → IsAmong (keys_of r.nodes.items) key
  pub enough : (key : ℕ) (path : Path) → IsPath tree (Some key) path
      → length (opened path) ≤ r.next
  pub least : (key : ℕ) × (path : Path) × IsPath tree (Some key) path
      × (r.next ≡ length (opened path))

-- ---- the exchange
abbrev pub AreKeysOf : Slab TreeNode → List Renumbered → Type 0
AreKeysOf nodes all = AllByRecursion (λ r. ContainsKey nodes r.node) all

abbrev pub renumbered_slot : Slab TreeNode → Renumbered → Option TreeNode → Slab TreeNode
renumbered_slot nodes r None = nodes
renumbered_slot nodes r (Some n) = with_value nodes r.node (with_numbers r.bindings r.split n)

-- each node of these gets what it is to have
abbrev pub exchanged : Slab TreeNode → List Renumbered → Slab TreeNode
exchanged nodes [] = nodes
exchanged nodes (r ∷ rs) = exchanged (renumbered_slot nodes r (get nodes r.node)) rs

-- ---- the tree
-- The indicators are numbered anew, and nothing else changes.
pub record Renumbers (old new : Tree Term) : Type 0 where
  pub renumbered : IsRenumbered old new
  pub few : new.next ≤ MOST_OCCURRENCES
  pub stays : StaysStored old new
  pub keeps : KeepsLeaves old new
  pub leaves : (key : ℕ) (t : Term) (postings : List Posting) → IsLeaf old key t postings
      → IsLeaf new key t postings
  pub counts : counts_of new ≡ counts_of old
