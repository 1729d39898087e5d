-- Legal trees, and trees that break one rule each.
use Rattle.std.specs.Prelude.{◌≡◌, ℕ, zero, suc, ◌+◌, ◌≤◌, List, [], ◌∷◌, map, None, Some}
use Rattle.si_defs.specs.Terms as terms
use Rattle.si_defs.specs.declared.TheConstants.{MOST_OCCURRENCES}
use Rattle.si_flat.specs.Cells.{Term}
use Rattle.si_legal.specs.declared.Posting.{Posting}
use Rattle.si_legal.specs.Bindings.{Binding, indicator}
use Rattle.si_legal.specs.Trees.{inner, leaf, Node, Tree}
use Rattle.si_legal.specs.Legal.{IsLegal}
use Rattle.si_legal.specs.Counts.{node_count, leaf_count, unmerged_count}
use Rattle.si_legal.specs.StoredSets.{AreUnder, IsUnder}
use Rattle.si_tree_examples.specs.SomeTerms.{f, g, a, b, c, x, y}

-- ---- nodes and trees
-- the first entry of the clause with this key
abbrev pub posting : ℕ → Posting
posting key = record { clause = key; entry = 0 }

abbrev pub root : List ℕ → Node Term
root children = record { parent = None; bindings = []; content = inner 0 children }

abbrev pub fork : ℕ → List Binding → ℕ → List ℕ → Node Term
fork parent bindings split children = record {
  parent = Some parent;
  bindings = bindings;
  content = inner split children;
}

abbrev pub leaf_holding : ℕ → List Binding → List Posting → Node Term
leaf_holding parent bindings postings = record {
  parent = Some parent;
  bindings = bindings;
  content = leaf postings;
}

-- a leaf that holds one posting, of the clause with this key
abbrev pub leaf_of : ℕ → List Binding → ℕ → Node Term
leaf_of parent bindings key = leaf_holding parent bindings (posting key ∷ [])

-- the nodes have the keys from 0, the root the first
abbrev pub tree_of : List (Node Term) → ℕ → ℕ → Tree Term
tree_of nodes next vars = record { nodes = map Some nodes; root = 0; next = next; vars = vars }

-- ---- legal trees
abbrev pub new_tree : Tree Term
new_tree = tree_of (root [] ∷ []) 1 0

-- the root and one leaf
abbrev pub two_nodes : Term → List Posting → Tree Term
two_nodes t postings =
    tree_of (root (1 ∷ []) ∷ leaf_holding 0 ((0, t) ∷ []) postings ∷ []) 1 0

-- f(a), f(b) and c, where the leaves of f(b) and of c hold these postings
abbrev pub five_of : List Posting → List Posting → Tree Term
five_of of_b of_c =
    tree_of (
    root (2 ∷ 4 ∷ [])
    ∷ leaf_of 2 ((1, a) ∷ []) 0
    ∷ fork 0 ((0, f (indicator 1 ∷ [])) ∷ []) 1 (1 ∷ 3 ∷ [])
    ∷ leaf_holding 2 ((1, b) ∷ []) of_b
    ∷ leaf_holding 0 ((0, c) ∷ []) of_c
    ∷ []
    ) 2 0

-- the leaf of c holds these postings
abbrev pub five_holding : List Posting → Tree Term
five_holding postings = five_of (posting 1 ∷ []) postings

abbrev pub five_nodes : Tree Term
five_nodes = five_holding (posting 2 ∷ [])

-- the leaf of f(b) has no posting
abbrev pub five_unmerged : Tree Term
five_unmerged = five_of [] (posting 2 ∷ [])

-- the leaf of c has two postings
abbrev pub five_shared : Tree Term
five_shared = five_holding (posting 2 ∷ posting 3 ∷ [])

-- f(X,Y) and f(X,X): the split is bound to Y and to X, and different variables are different heads
abbrev pub variable_leaves : Tree Term
variable_leaves =
    tree_of (
    root (1 ∷ [])
    ∷ fork 0 ((0, f (x 0 ∷ indicator 1 ∷ [])) ∷ []) 1 (2 ∷ 3 ∷ [])
    ∷ leaf_of 1 ((1, x 1) ∷ []) 0
    ∷ leaf_of 1 ((1, x 0) ∷ []) 1
    ∷ []
    ) 2 2

abbrev pub NewTree : Type 0
NewTree = IsLegal new_tree

abbrev pub FiveNodes : Type 0
FiveNodes =
    IsLegal five_nodes × (node_count five_nodes ≡ 5) × (leaf_count five_nodes ≡ 3)
    × (unmerged_count five_nodes ≡ 0)

-- under f(b) stands the posting of its clause, and under g(a) none
abbrev pub StoredPostings : Type 0
StoredPostings =
    AreUnder five_nodes (f (b ∷ [])) (posting 1 ∷ []) × AreUnder five_nodes (g a) []

-- in each leaf's term variables are numbered from 0 by first occurrence
abbrev pub VariableLeaves : Type 0
VariableLeaves =
    IsLegal variable_leaves × AreUnder variable_leaves (f (x 0 ∷ x 1 ∷ [])) (posting 0 ∷ [])
    × AreUnder variable_leaves (f (x 0 ∷ x 0 ∷ [])) (posting 1 ∷ [])

abbrev pub UnmergedLeaf : Type 0
UnmergedLeaf =
    IsLegal five_unmerged × (node_count five_unmerged ≡ 5) × (leaf_count five_unmerged ≡ 3)
    × (unmerged_count five_unmerged ≡ 1)

-- nothing is stored under the term of a leaf without a posting
abbrev pub NothingStored : Type 0
NothingStored =
    AreUnder five_unmerged (f (b ∷ [])) []
    × ((p : Posting) → IsUnder five_unmerged (f (b ∷ [])) p → ⊥)

-- a term of two clauses has one leaf, which holds both postings in their order
abbrev pub SharedLeaf : Type 0
SharedLeaf =
    IsLegal five_shared × (leaf_count five_shared ≡ 3)
    × AreUnder five_shared c (posting 2 ∷ posting 3 ∷ [])

abbrev pub NoTurnedPostings : Type 0
NoTurnedPostings = AreUnder five_shared c (posting 3 ∷ posting 2 ∷ []) → ⊥

-- ---- one rule broken
-- What follows from other rules isn't broken alone: what the root has to be, that a split is open,
-- that a child is there, that a leaf has no child, that no variable is a query's, and that leaves
-- have different terms. All other rules are broken here by a tree that keeps the rest.
abbrev pub NoBindingRoot : Type 0
NoBindingRoot =
    IsLegal (
    tree_of
    (record { parent = None; bindings = (0, f (indicator 1 ∷ [])) ∷ []; content = inner 1 [] } ∷ [])
    2 0
    )
    → ⊥

abbrev pub NoOtherRootSplit : Type 0
NoOtherRootSplit =
    IsLegal (
    tree_of (record { parent = None; bindings = []; content = inner 1 [] } ∷ []) 2 0
    )
    → ⊥

abbrev pub NoSingleChild : Type 0
NoSingleChild =
    IsLegal (
    tree_of (
    root (1 ∷ [])
    ∷ fork 0 ((0, f (indicator 1 ∷ [])) ∷ []) 1 (2 ∷ [])
    ∷ leaf_of 1 ((1, a) ∷ []) 0
    ∷ []
    ) 2 0
    )
    → ⊥

abbrev pub NoBareIndicator : Type 0
NoBareIndicator =
    IsLegal (
    tree_of (
    root (1 ∷ [])
    ∷ fork 0 ((0, indicator 1) ∷ []) 1 (2 ∷ 3 ∷ [])
    ∷ leaf_of 1 ((1, a) ∷ []) 0
    ∷ leaf_of 1 ((1, b) ∷ []) 1
    ∷ []
    ) 2 0
    )
    → ⊥

abbrev pub NoIndicatorTwice : Type 0
NoIndicatorTwice =
    IsLegal (
    tree_of (
    root (1 ∷ [])
    ∷ fork 0 ((0, f (indicator 1 ∷ indicator 1 ∷ [])) ∷ []) 1 (2 ∷ 3 ∷ [])
    ∷ leaf_of 1 ((1, a) ∷ []) 0
    ∷ leaf_of 1 ((1, b) ∷ []) 1
    ∷ []
    ) 2 0
    )
    → ⊥

-- an indicator that was bound isn't opened again further down
abbrev pub NoIndicatorAgain : Type 0
NoIndicatorAgain =
    IsLegal (
    tree_of (
    root (1 ∷ [])
    ∷ fork 0 ((0, f (indicator 1 ∷ [])) ∷ []) 1 (2 ∷ 3 ∷ [])
    ∷ fork 1 ((1, g (indicator 1)) ∷ []) 1 (4 ∷ 5 ∷ [])
    ∷ leaf_of 1 ((1, c) ∷ []) 0
    ∷ leaf_of 2 ((1, a) ∷ []) 1
    ∷ leaf_of 2 ((1, b) ∷ []) 2
    ∷ []
    ) 2 0
    )
    → ⊥

abbrev pub NoForeignBinding : Type 0
NoForeignBinding =
    IsLegal (tree_of (root (1 ∷ []) ∷ leaf_of 0 ((0, a) ∷ (1, b) ∷ []) 0 ∷ []) 2 0) → ⊥

abbrev pub NoBoundSplit : Type 0
NoBoundSplit =
    IsLegal (
    tree_of (
    root (1 ∷ [])
    ∷ fork 0 ((0, f (indicator 1 ∷ [])) ∷ []) 0 (2 ∷ 3 ∷ [])
    ∷ leaf_of 1 ((1, a) ∷ []) 0
    ∷ leaf_of 1 ((1, b) ∷ []) 1
    ∷ []
    ) 2 0
    )
    → ⊥

-- both children bind the second indicator, and the node splits on the first
abbrev pub NoSplitUnbound : Type 0
NoSplitUnbound =
    IsLegal (
    tree_of (
    root (1 ∷ [])
    ∷ fork 0 ((0, f (indicator 1 ∷ indicator 2 ∷ [])) ∷ []) 1 (2 ∷ 3 ∷ [])
    ∷ leaf_of 1 ((2, a) ∷ []) 0
    ∷ leaf_of 1 ((2, b) ∷ []) 1
    ∷ []
    ) 3 0
    )
    → ⊥

abbrev pub NoEqualHeads : Type 0
NoEqualHeads =
    IsLegal (
    tree_of (
    root (1 ∷ 2 ∷ [])
    ∷ leaf_of 0 ((0, f (a ∷ [])) ∷ []) 0
    ∷ leaf_of 0 ((0, f (b ∷ [])) ∷ []) 1
    ∷ []
    ) 1 0
    )
    → ⊥

-- a term has one leaf
abbrev pub NoTermTwice : Type 0
NoTermTwice =
    IsLegal (
    tree_of (
    root (1 ∷ 2 ∷ []) ∷ leaf_of 0 ((0, a) ∷ []) 0 ∷ leaf_of 0 ((0, a) ∷ []) 1 ∷ []
    ) 1 0
    )
    → ⊥

abbrev pub NoOpenLeaf : Type 0
NoOpenLeaf =
    IsLegal (tree_of (root (1 ∷ []) ∷ leaf_of 0 ((0, f (indicator 1 ∷ [])) ∷ []) 0 ∷ []) 2 0) → ⊥

-- the first variable that occurs has the number 0
abbrev pub NoLaterVariable : Type 0
NoLaterVariable =
    IsLegal (tree_of (root (1 ∷ []) ∷ leaf_of 0 ((0, f (x 1 ∷ [])) ∷ []) 0 ∷ []) 1 2) → ⊥

abbrev pub NoLargeIndicator : Type 0
NoLargeIndicator =
    IsLegal (
    tree_of (
    root (1 ∷ [])
    ∷ fork 0 ((0, f (indicator 1 ∷ [])) ∷ []) 1 (2 ∷ 3 ∷ [])
    ∷ leaf_of 1 ((1, a) ∷ []) 0
    ∷ leaf_of 1 ((1, b) ∷ []) 1
    ∷ []
    ) 1 0
    )
    → ⊥

abbrev pub NoLargeVariable : Type 0
NoLargeVariable =
    IsLegal (tree_of (root (1 ∷ []) ∷ leaf_of 0 ((0, f (x 0 ∷ [])) ∷ []) 0 ∷ []) 1 0) → ⊥

abbrev pub NoPostingTwice : Type 0
NoPostingTwice =
    IsLegal (
    tree_of (
    root (1 ∷ 2 ∷ []) ∷ leaf_of 0 ((0, a) ∷ []) 0 ∷ leaf_of 0 ((0, b) ∷ []) 0 ∷ []
    ) 1 0
    )
    → ⊥

-- the leaf has a parent that doesn't name it among its children
abbrev pub NoForgottenChild : Type 0
NoForgottenChild =
    IsLegal (tree_of (root [] ∷ leaf_of 0 ((0, a) ∷ []) 0 ∷ []) 1 0) → ⊥

-- ---- roots, parents and children
abbrev pub NoTreeWithoutRoot : Type 0
NoTreeWithoutRoot = IsLegal (tree_of [] 1 0) → ⊥

-- the root has no parent
abbrev pub NoRootWithParent : Type 0
NoRootWithParent = IsLegal (tree_of (fork 1 [] 0 [] ∷ []) 1 0) → ⊥

-- the root is an inner node
abbrev pub NoLeafAsRoot : Type 0
NoLeafAsRoot =
    IsLegal (tree_of (record { parent = None; bindings = []; content = leaf [] } ∷ []) 1 0) → ⊥

-- every node but the root has a parent
abbrev pub NoSecondRoot : Type 0
NoSecondRoot =
    IsLegal (
    tree_of (
    root []
    ∷ root (2 ∷ 3 ∷ [])
    ∷ leaf_of 1 ((0, a) ∷ []) 0
    ∷ leaf_of 1 ((0, b) ∷ []) 1
    ∷ []
    ) 1 0
    )
    → ⊥

-- a node's parent is there
abbrev pub NoMissingParent : Type 0
NoMissingParent = IsLegal (tree_of (root [] ∷ leaf_of 2 ((0, a) ∷ []) 0 ∷ []) 1 0) → ⊥

-- and from each node parents lead to the root, not back to it
abbrev pub NoCircle : Type 0
NoCircle =
    IsLegal (
    tree_of (
    root []
    ∷ fork 2 ((0, f (indicator 0 ∷ [])) ∷ []) 0 (2 ∷ 3 ∷ [])
    ∷ fork 1 ((0, f (indicator 0 ∷ [])) ∷ []) 0 (1 ∷ 4 ∷ [])
    ∷ leaf_of 1 ((0, a) ∷ []) 0
    ∷ leaf_of 2 ((0, b) ∷ []) 1
    ∷ []
    ) 1 0
    )
    → ⊥

-- each child that a node names is there
abbrev pub NoMissingChild : Type 0
NoMissingChild = IsLegal (tree_of (root (1 ∷ []) ∷ []) 1 0) → ⊥

-- and has that node as its parent: the leaf of g(c) isn't below f
abbrev pub NoForeignChild : Type 0
NoForeignChild =
    IsLegal (
    tree_of (
    root (1 ∷ 4 ∷ [])
    ∷ fork 0 ((0, f (indicator 1 ∷ [])) ∷ []) 1 (2 ∷ 3 ∷ 6 ∷ [])
    ∷ leaf_of 1 ((1, a) ∷ []) 0
    ∷ leaf_of 1 ((1, b) ∷ []) 1
    ∷ fork 0 ((0, g (indicator 1)) ∷ []) 1 (5 ∷ 6 ∷ [])
    ∷ leaf_of 4 ((1, a) ∷ []) 2
    ∷ leaf_of 4 ((1, c) ∷ []) 3
    ∷ []
    ) 2 0
    )
    → ⊥

-- a child is named once
abbrev pub NoChildTwice : Type 0
NoChildTwice =
    IsLegal (tree_of (root (1 ∷ 1 ∷ []) ∷ leaf_of 0 ((0, a) ∷ []) 0 ∷ []) 1 0) → ⊥

-- a leaf has no child
abbrev pub NoChildBelowLeaf : Type 0
NoChildBelowLeaf =
    IsLegal (
    tree_of (root (1 ∷ []) ∷ leaf_of 0 ((0, a) ∷ []) 0 ∷ leaf_of 1 [] 1 ∷ []) 1 0
    )
    → ⊥

-- ---- bindings and leaves
-- a node binds an indicator once
abbrev pub NoBoundTwice : Type 0
NoBoundTwice =
    IsLegal (tree_of (root (1 ∷ []) ∷ leaf_of 0 ((0, a) ∷ (0, b) ∷ []) 0 ∷ []) 1 0) → ⊥

-- each path opens indicator 0 at its start, so no binding opens it again
abbrev pub NoZeroAgain : Type 0
NoZeroAgain =
    IsLegal (
    tree_of (
    root (1 ∷ [])
    ∷ fork 0 ((0, f (indicator 0 ∷ [])) ∷ []) 0 (2 ∷ 3 ∷ [])
    ∷ leaf_of 1 ((0, a) ∷ []) 0
    ∷ leaf_of 1 ((0, b) ∷ []) 1
    ∷ []
    ) 1 0
    )
    → ⊥

-- a tree has no variable of a query
abbrev pub NoQueryVariable : Type 0
NoQueryVariable = IsLegal (two_nodes (f (y ∷ [])) (posting 0 ∷ [])) → ⊥

-- each child binds the split itself: it isn't left to the nodes below a child
abbrev pub NoSplitBoundLater : Type 0
NoSplitBoundLater =
    IsLegal (
    tree_of (
    root (1 ∷ [])
    ∷ fork 0 ((0, f (indicator 1 ∷ indicator 2 ∷ [])) ∷ []) 1 (2 ∷ 3 ∷ [])
    ∷ fork 1 ((2, a) ∷ []) 1 (4 ∷ 5 ∷ [])
    ∷ leaf_of 1 ((1, c) ∷ (2, c) ∷ []) 0
    ∷ leaf_of 2 ((1, a) ∷ []) 1
    ∷ leaf_of 2 ((1, b) ∷ []) 2
    ∷ []
    ) 3 0
    )
    → ⊥

-- the same variable is the same head: f(X,X) and f(X,Y) don't part at their first arguments
abbrev pub NoEqualVariables : Type 0
NoEqualVariables =
    IsLegal (
    tree_of (
    root (1 ∷ [])
    ∷ fork 0 ((0, f (indicator 1 ∷ indicator 2 ∷ [])) ∷ []) 1 (2 ∷ 3 ∷ [])
    ∷ leaf_of 1 ((1, x 0) ∷ (2, x 0) ∷ []) 0
    ∷ leaf_of 1 ((1, x 0) ∷ (2, x 1) ∷ []) 1
    ∷ []
    ) 3 2
    )
    → ⊥

-- the variable that occurs first has the lower number
abbrev pub NoTurnedVariables : Type 0
NoTurnedVariables =
    IsLegal (
    tree_of (root (1 ∷ []) ∷ leaf_of 0 ((0, f (x 1 ∷ x 0 ∷ [])) ∷ []) 0 ∷ []) 1 2
    )
    → ⊥

-- a symbol of arity 1 has an argument
abbrev pub NoUnsoundTerm : Type 0
NoUnsoundTerm =
    IsLegal (
    two_nodes (terms.app (record { number = 2; arity = 1 }) terms.none) (posting 0 ∷ [])
    )
    → ⊥

-- so many times f, and a inside
abbrev pub nested : ℕ → Term
nested zero = a
nested (suc n) = f (nested n ∷ [])

-- with a, these are more symbols than a term may have
abbrev pub NoLargeTerm : Type 0
NoLargeTerm =
    (n : ℕ) → MOST_OCCURRENCES ≤ n → IsLegal (two_nodes (nested n) (posting 0 ∷ [])) → ⊥

-- a leaf has a posting once
abbrev pub NoPostingTwiceInLeaf : Type 0
NoPostingTwiceInLeaf = IsLegal (two_nodes a (posting 0 ∷ posting 0 ∷ [])) → ⊥

-- ---- bounds
-- indicator 0 is below `next`
abbrev pub NoNextZero : Type 0
NoNextZero = IsLegal (tree_of (root [] ∷ []) 0 0) → ⊥

-- no tree needs more variables than a term may have
abbrev pub NoManyVariables : Type 0
NoManyVariables = IsLegal (tree_of (root [] ∷ []) 1 (1 + MOST_OCCURRENCES)) → ⊥
