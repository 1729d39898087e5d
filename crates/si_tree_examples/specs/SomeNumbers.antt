-- Trees that are renumbered.
use Rattle.std.specs.Prelude.{ℕ, [], ◌∷◌}
use Rattle.si_flat.specs.Cells.{Term}
use Rattle.si_legal.specs.Bindings.{indicator}
use Rattle.si_legal.specs.Trees.{Tree, IsLeaf}
use Rattle.si_legal.specs.Renumbering.{IsRenumbered}
use Rattle.si_tree_examples.specs.SomeTerms.{f, a, b, c}
use Rattle.si_tree_examples.specs.SomeTrees.{posting, root, fork, leaf_of, tree_of, five_nodes}
use Rattle.si_tree_examples.specs.SomeRemovals.{three_with, three_nodes}

-- f(a), f(b) and c, where the one indicator below the root has this number
abbrev pub five_with : ℕ → ℕ → Tree Term
five_with n next =
    tree_of (
    root (2 ∷ 4 ∷ [])
    ∷ leaf_of 2 ((n, a) ∷ []) 0
    ∷ fork 0 ((0, f (indicator n ∷ [])) ∷ []) n (1 ∷ 3 ∷ [])
    ∷ leaf_of 2 ((n, b) ∷ []) 1
    ∷ leaf_of 0 ((0, c) ∷ []) 2
    ∷ []
    ) next 0

abbrev pub SevenToOne : Type 0
SevenToOne = IsRenumbered (five_with 7 8) five_nodes

-- no number is left out
abbrev pub NoSevenToTwo : Type 0
NoSevenToTwo = IsRenumbered (five_with 7 8) (five_with 2 3) → ⊥

-- `next` is one above the greatest
abbrev pub NoLargeNext : Type 0
NoLargeNext = IsRenumbered (five_with 7 8) (five_with 1 8) → ⊥

-- ---- after the removal of f(b)
-- the paths open 0 alone
abbrev pub TwoToOne : Type 0
TwoToOne = IsRenumbered three_nodes (three_with 1)

-- the leaves stay, and their terms
abbrev pub KeepsTerms : Type 0
KeepsTerms =
    IsLeaf (three_with 1) 1 (f (a ∷ [])) (posting 0 ∷ [])
    × IsLeaf (three_with 1) 4 c (posting 2 ∷ [])

abbrev pub NoNextKept : Type 0
NoNextKept = IsRenumbered three_nodes three_nodes → ⊥
