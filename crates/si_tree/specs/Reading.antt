-- What is read of a node.
use Rattle.std.specs.Prelude.{ℕ, List, [], Option, None, Some}
use Rattle.si_flat.specs.Cells.{Term}
use Rattle.si_legal.specs.declared.Posting.{Posting}
use Rattle.si_legal.specs.Counts.{node_count, leaf_count, unmerged_count}
use Rattle.si_legal.specs.Trees.{Content, inner, leaf, Node, Tree, HasNode}
use Rattle.si_tree.specs.declared.node.Counts.{Counts}

-- the key is that of a node
abbrev pub IsNode : Tree Term → ℕ → Type 0
IsNode tree key = (node : Node Term) × HasNode tree key node

-- this holds of the node with the key
abbrev pub AtNode : Tree Term → ℕ → (Node Term → Type 0) → Type 0
AtNode tree key P = (node : Node Term) → HasNode tree key node → P node

abbrev pub split_of : Content → Option ℕ
split_of (inner split children) = Some split
split_of (leaf postings) = None

abbrev pub children_of : Content → List ℕ
children_of (inner split children) = children
children_of (leaf postings) = []

abbrev pub postings_of : Content → List Posting
postings_of (inner split children) = []
postings_of (leaf postings) = postings

abbrev pub counts_of : Tree Term → Counts
counts_of tree = record {
  nodes = node_count tree;
  leaves = leaf_count tree;
  unmerged = unmerged_count tree;
}
