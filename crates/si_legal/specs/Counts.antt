-- How many nodes a tree has, how many leaves, and how many of these have no posting.
use Rattle.std.specs.Prelude.{ℕ, ◌+◌, List, [], ◌∷◌, Option, None, Some}
use Rattle.si_legal.specs.Trees.{Content, inner, leaf, Node, Tree}

abbrev pub leaves_of : Content → ℕ
leaves_of (inner split children) = 0
leaves_of (leaf postings) = 1

-- a leaf without a posting is there for a join that wasn't made
abbrev pub unmerged_of : Content → ℕ
unmerged_of (inner split children) = 0
unmerged_of (leaf []) = 1
unmerged_of (leaf (p ∷ ps)) = 0

abbrev pub counted : {R : Type 0} → (Content → ℕ) → List (Option (Node R)) → ℕ
counted count [] = 0
counted count (None ∷ nodes) = counted count nodes
counted count (Some node ∷ nodes) = count node.content + counted count nodes

abbrev pub node_count : {R : Type 0} → Tree R → ℕ
node_count tree = counted (λ content. 1) tree.nodes

abbrev pub leaf_count : {R : Type 0} → Tree R → ℕ
leaf_count tree = counted leaves_of tree.nodes

abbrev pub unmerged_count : {R : Type 0} → Tree R → ℕ
unmerged_count tree = counted unmerged_of tree.nodes
