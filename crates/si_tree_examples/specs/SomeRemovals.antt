-- f(b) goes from the tree of five nodes, and its leaf too: the inner node is joined with the leaf
-- of f(a).
use Rattle.std.specs.Prelude.{◌≡◌, ℕ, [], ◌∷◌, Option, None, Some}
use Rattle.si_flat.specs.Cells.{Term}
use Rattle.si_legal.specs.Trees.{Node, Tree}
use Rattle.si_legal.specs.Legal.{IsLegal}
use Rattle.si_legal.specs.Counts.{node_count, leaf_count, unmerged_count}
use Rattle.si_changes.specs.Joins.{MayJoin, Joins}
use Rattle.si_prune.specs.Pruning.{RemovesWhole, LeavesUnmerged, RemovesPosting}
use Rattle.si_tree_examples.specs.SomeTerms.{f, a, b, c}
use Rattle.si_tree_examples.specs.SomeTrees.{posting, root, leaf_holding, leaf_of, five_of, five_nodes, five_unmerged}

-- the root with two children, the leaf of c and one other, which has the key 1 or 3
abbrev pub three_of : ℕ → Option (Node Term) → Option (Node Term) → ℕ → Tree Term
three_of child at_1 at_3 next = record {
  nodes = Some (root (child ∷ 4 ∷ [])) ∷ at_1 ∷ None ∷ at_3 ∷ Some (leaf_of 0 ((0, c) ∷ []) 2) ∷ [];
  root = 0;
  next = next;
  vars = 0;
}

-- f(a) and c are left
abbrev pub three_with : ℕ → Tree Term
three_with next = three_of 1 (Some (leaf_of 0 ((0, f (a ∷ [])) ∷ []) 0)) None next

abbrev pub three_nodes : Tree Term
three_nodes = three_with 2

abbrev pub ThreeNodes : Type 0
ThreeNodes =
    IsLegal three_nodes × (node_count three_nodes ≡ 3) × (leaf_count three_nodes ≡ 2)
    × (unmerged_count three_nodes ≡ 0)

-- ---- the join
abbrev pub JoinsLeaf : Type 0
JoinsLeaf = MayJoin five_unmerged 3 1 × Joins five_unmerged three_nodes 3 1

-- the leaf without a posting is the one that goes
abbrev pub NoOtherChild : Type 0
NoOtherChild =
    Joins five_unmerged (
    three_of 3 None (Some (leaf_holding 0 ((0, f (b ∷ [])) ∷ []) [])) 2
    ) 3 1
    → ⊥

-- the bindings of the inner node are composed with those of the leaf
abbrev pub NoUncomposed : Type 0
NoUncomposed =
    Joins five_unmerged (three_of 1 (Some (leaf_of 0 ((1, a) ∷ []) 0)) None 2) 3 1 → ⊥

-- the root isn't joined with the child that is left
abbrev pub NoRootJoined : Type 0
NoRootJoined = MayJoin (five_of (posting 1 ∷ []) []) 4 2 → ⊥

-- ---- the removal
abbrev pub RemovesLast : Type 0
RemovesLast = RemovesWhole five_nodes three_nodes 3 (posting 1)

-- without the join the leaf stays, and the removal isn't whole
abbrev pub LeavesLeaf : Type 0
LeavesLeaf = LeavesUnmerged five_nodes five_unmerged 3 (posting 1)

abbrev pub NoLeafLeft : Type 0
NoLeafLeft = RemovesWhole five_nodes five_unmerged 3 (posting 1) → ⊥

-- a removal that doesn't tell whether it is whole may do either
abbrev pub RemovesEither : Type 0
RemovesEither =
    RemovesPosting five_nodes three_nodes 3 (posting 1)
    × RemovesPosting five_nodes five_unmerged 3 (posting 1)

-- no leaf stays without a posting below the root, where no join is due
abbrev pub NoLeafBelowRoot : Type 0
NoLeafBelowRoot = RemovesPosting five_nodes (five_of (posting 1 ∷ []) []) 4 (posting 2) → ⊥
