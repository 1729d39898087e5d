-- f(a), f(b) and c come into an empty tree, one after the other.
use Rattle.std.specs.Prelude.{◌≡◌, ℕ, [], ◌∷◌}
use Rattle.si_flat.specs.Cells.{Term}
use Rattle.si_legal.specs.Bindings.{indicator}
use Rattle.si_legal.specs.Trees.{Tree}
use Rattle.si_changes.specs.Leaves.{MayAddLeaf, AddsLeaf}
use Rattle.si_changes.specs.Splits.{Parts, MaySplitNode, SplitsNode}
use Rattle.si_tree_examples.specs.SomeTerms.{f, a, b, c}
use Rattle.si_tree_examples.specs.SomeTrees.{posting, root, fork, leaf_of, tree_of, new_tree, two_nodes, five_nodes}

-- f(a) alone
abbrev pub one_term : Tree Term
one_term = two_nodes (f (a ∷ [])) (posting 0 ∷ [])

-- f(a) and f(b)
abbrev pub four_with : ℕ → Tree Term
four_with next =
    tree_of (
    root (2 ∷ [])
    ∷ leaf_of 2 ((1, a) ∷ []) 0
    ∷ fork 0 ((0, f (indicator 1 ∷ [])) ∷ []) 1 (1 ∷ 3 ∷ [])
    ∷ leaf_of 2 ((1, b) ∷ []) 1
    ∷ []
    ) next 0

-- what the bindings of both are split into
abbrev pub parts : Parts
parts = record {
  common = (0, f (indicator 1 ∷ [])) ∷ [];
  rest_node = (1, a) ∷ [];
  rest_new = (1, b) ∷ [];
}

-- a leaf below the root opens no indicator
abbrev pub FirstInsertion : Type 0
FirstInsertion =
    MayAddLeaf new_tree 0 ((0, f (a ∷ [])) ∷ []) (posting 0)
    × AddsLeaf new_tree one_term 0 ((0, f (a ∷ [])) ∷ []) (posting 0) 1 × (one_term.next ≡ 1)

-- a split opens one
abbrev pub SecondInsertion : Type 0
SecondInsertion =
    MaySplitNode one_term 1 parts [] (posting 1)
    × SplitsNode one_term (four_with 2) 1 parts [] (posting 1) 2 3

abbrev pub ThirdInsertion : Type 0
ThirdInsertion =
    MayAddLeaf (four_with 2) 0 ((0, c) ∷ []) (posting 2)
    × AddsLeaf (four_with 2) five_nodes 0 ((0, c) ∷ []) (posting 2) 4 × (five_nodes.next ≡ 2)

-- the indicator that a split opens isn't left out
abbrev pub NoOldNext : Type 0
NoOldNext = SplitsNode one_term (four_with 1) 1 parts [] (posting 1) 2 3 → ⊥

-- f(b) comes by a split, and not below the root beside f(a)
abbrev pub NoEqualHead : Type 0
NoEqualHead = MayAddLeaf one_term 0 ((0, f (b ∷ [])) ∷ []) (posting 1) → ⊥
