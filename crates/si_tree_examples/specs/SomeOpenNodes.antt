-- Which terms of paths are open for a query.
use Rattle.std.specs.Prelude.{◌≢◌, ◌↔◌, ℕ, List, [], ◌∷◌}
use Rattle.si_defs.specs.declared.Relation.{Relation}
use Rattle.si_defs.specs.declared.Relation.TheVariants.{Variants, Instances, Generalizations, Unifiable}
use Rattle.si_defs.specs.Relations.{Relates}
use Rattle.si_flat.specs.Cells.{query, same_variable, Term}
use Rattle.si_flat.specs.Flattened.{IsNumberedBy}
use Rattle.si_legal.specs.declared.Posting.{Posting}
use Rattle.si_legal.specs.Bindings.{indicator}
use Rattle.si_legal.specs.Legal.{IsLegal}
use Rattle.si_legal.specs.OpenNodes.{IsOpen, IsOpenNode, CountsOpen}
use Rattle.si_legal.specs.Trees.{Tree, IsLeaf}
use Rattle.si_tree_examples.specs.SomeTerms.{f, g, a, x, y}
use Rattle.si_tree_examples.specs.SomeTrees.{five_nodes}

-- f(*1) is open for the instances of f(Y)
abbrev pub OpenForInstances : Type 0
OpenForInstances = IsOpen Instances (f (y ∷ [])) (f (indicator 1 ∷ []))

-- the variable of an entry is none of f(a)'s instances, but it may be unified with a
abbrev pub ConstantVariable : Type 0
ConstantVariable =
    IsOpen Unifiable (f (a ∷ [])) (f (x 0 ∷ []))
    × (IsOpen Instances (f (a ∷ [])) (f (x 0 ∷ [])) → ⊥)

-- f(X) is a generalization of f(a), and no variant
abbrev pub OnlyGeneralization : Type 0
OnlyGeneralization =
    IsOpen Generalizations (f (a ∷ [])) (f (x 0 ∷ []))
    × (IsOpen Variants (f (a ∷ [])) (f (x 0 ∷ [])) → ⊥)

-- where an indicator stands, a variant may follow
abbrev pub OpenForVariants : Type 0
OpenForVariants = IsOpen Variants (f (a ∷ [])) (f (indicator 1 ∷ []))

-- two variables of an entry are no variants of one of the query
abbrev pub NoTwoForOne : Type 0
NoTwoForOne = IsOpen Variants (f (y ∷ y ∷ [])) (f (x 0 ∷ x 1 ∷ [])) → ⊥

-- g(*1) is closed for f(Y), whatever the relation is
abbrev pub ClosedByHead : Type 0
ClosedByHead = IsOpen Unifiable (f (y ∷ [])) (g (indicator 1)) → ⊥

-- of the five nodes all but the leaf of c are open for f(Y)
abbrev pub FourOpen : Type 0
FourOpen = CountsOpen five_nodes 0 Unifiable (f (y ∷ [])) 4

-- and no other number counts them
abbrev pub NoOtherCount : Type 0
NoOtherCount = (n : ℕ) → n ≢ 4 → CountsOpen five_nodes 0 Unifiable (f (y ∷ [])) n → ⊥

-- ---- in each legal tree
-- the root is open for each query
abbrev pub RootOpen : Type 0
RootOpen =
    (tree : Tree Term) → IsLegal tree → (relation : Relation) (q : Term) → IsNumberedBy query q
    → IsOpenNode tree tree.root relation q tree.root

-- where a node is open that stands below another, so is the other
abbrev pub OpenAbove : Type 0
OpenAbove =
    (tree : Tree Term) → IsLegal tree → (relation : Relation) (q : Term) → IsNumberedBy query q
    → (top key : ℕ) → IsOpenNode tree top relation q key → IsOpenNode tree top relation q top

-- a leaf is open exactly where its term stands in the relation to the query
abbrev pub LeavesRelate : Type 0
LeavesRelate =
    (tree : Tree Term) → IsLegal tree → (relation : Relation) (q : Term) → IsNumberedBy query q
    → (key : ℕ) (t : Term) (postings : List Posting) → IsLeaf tree key t postings
    → IsOpenNode tree key relation q key ↔ Relates same_variable relation q t
