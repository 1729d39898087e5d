-- Bindings composed in cells, and what the removal of a posting does (this project's profile).
use Rattle.std.specs.Prelude.{◌≡◌, ◌≢◌, ℕ, ◌+◌, ◌^◌, ◌≤◌, cond, not, ◌==◌, List, [], ◌∷◌, ◌++◌, map, filter, length}
use Rattle.std.specs.List.{list_any}
use Rattle.std.specs.List.Sorted.{IsNonDecreasingBy, IsPermutation}
use Rattle.si_defs.specs.Substitutions.{AreDistinct}
use Rattle.si_flat.specs.declared.Cell.{Cell}
use Rattle.si_flat.specs.declared.Cell.TheVariants as cell
use Rattle.si_flat.specs.Cells.{Term}
use Rattle.si_flat.specs.Rows.{CellPair, left_sides}
use Rattle.si_legal.specs.declared.Posting.{Posting}
use Rattle.si_legal.specs.Bindings.{Binding, right_indicators, right_sizes, composed, StandForBindings}
use Rattle.si_legal.specs.Counts.{unmerged_count}
use Rattle.si_legal.specs.StoredSets.{Loses, KeepsLeaves}
use Rattle.si_legal.specs.Trees.{leaf, Node, Tree, HasNode, IsLeaf}
use Rattle.si_mscg.specs.Generalising.{spanless, respanned}
use Rattle.si_changes.specs.Nodes.{IsBelowInner}
use Rattle.si_changes.specs.Joins.{MayJoin}

-- ---- bindings composed
-- No left side stands twice in both lists together, no indicator twice on the right sides of the
-- first, and all right sides have at most 1,073,741,824 cells.
pub record AreComposable (first second : List Binding) : Type 0 where
  pub lefts : AreDistinct (left_sides first ++ left_sides second)
  pub once : AreDistinct (right_indicators first)
  pub room : right_sizes first + right_sizes second ≤ 2 ^ 30

-- the two lists stand for such bindings
abbrev pub MayCompose : List CellPair → List CellPair → Type 0
MayCompose node child =
    (ns : List Binding) × (cs : List Binding) × StandForBindings node ns
    × StandForBindings child cs × AreComposable ns cs

-- this one stands for those of the two lists composed
abbrev pub Composes : List CellPair → List CellPair → List CellPair → Type 0
Composes node child both =
    (ns cs : List Binding) → StandForBindings node ns → StandForBindings child cs
    → StandForBindings both (composed ns cs)

-- ---- in cells
-- what is bound to the indicator, and the indicator where nothing is
abbrev pub part_in : List CellPair → ℕ → List Cell
part_in [] n = cell.Ind n ∷ []
part_in (b ∷ bs) n = cond (b.0 == n) b.1 (part_in bs n)

-- the draft of the right side with the bindings applied
abbrev pub filled : List CellPair → List Cell → List Cell
filled bs [] = []
filled bs (cell.Ind n ∷ cells) = map spanless (part_in bs n) ++ filled bs cells
filled bs (cell.Query n ∷ cells) = cell.Query n ∷ filled bs cells
filled bs (cell.Entry n ∷ cells) = cell.Entry n ∷ filled bs cells
filled bs (cell.App s arity len ∷ cells) = cell.App s arity 1 ∷ filled bs cells

-- the pairs of the first list, with the second applied to their right sides
abbrev pub carried_pairs : List CellPair → List CellPair → List CellPair
carried_pairs first second = map (λ b. (b.0, respanned (filled second b.1))) first

-- the pairs whose left sides are none of these
abbrev pub unused_pairs : List ℕ → List CellPair → List CellPair
unused_pairs ns bs = filter (λ b. not (list_any (λ n. n == b.0) ns)) bs

-- ---- bindings in order
-- they have other bindings in the order of their left sides, and no left side stands there twice
pub record AreInLeftOrder (pairs order : List CellPair) : Type 0 where
  pub distinct : AreDistinct (left_sides pairs)
  pub same : IsPermutation pairs order
  pub rise : IsNonDecreasingBy (λ pair. pair.0) order

-- they are other numbers in their order
pub record AreNumbersInOrder (numbers order : List ℕ) : Type 0 where
  pub same : IsPermutation numbers order
  pub rise : IsNonDecreasingBy (λ n. n) order

-- ---- a leaf goes
abbrev pub IsEmptyLeaf : Tree Term → ℕ → Type 0
IsEmptyLeaf tree key = (node : Node Term) × HasNode tree key node × (node.content ≡ leaf [])

-- a join of the leaf's parent is due: it isn't the root, and has exactly two children
pub record IsJoinDue (tree : Tree Term) (key : ℕ) : Type 0 where
  pub stands : IsBelowInner tree key
  pub no_root : stands.parent ≢ tree.root
  pub two : length stands.children ≡ 2

-- the leaf goes by a join of this parent with this other child
pub record AreToJoin (tree : Tree Term) (key parent other : ℕ) : Type 0 where
  pub may : MayJoin tree key other
  pub parent_is : may.stands.parent ≡ parent
  pub other_node : Node Term
  pub has_other : HasNode tree other other_node
  pub composable : AreComposable may.stands.parent_node.bindings other_node.bindings

-- ---- a posting removed
-- The leaf's term loses the posting, and other terms keep theirs. No leaf stays for it without a
-- posting, so there are no more such leaves than before.
pub record RemovesWhole (old new : Tree Term) (key : ℕ) (p : Posting) : Type 0 where
  pub loses : (t : Term) (postings : List Posting) → IsLeaf old key t postings
      → Loses old new t p
  pub keeps : KeepsLeaves old new
  pub gone : (t : Term) → IsLeaf new key t [] → ⊥
  pub unmerged : unmerged_count new ≤ unmerged_count old

-- The leaf's term loses the posting, and other terms keep theirs. The leaf stays without a posting,
-- though a join was due, so there is one more such leaf.
pub record LeavesUnmerged (old new : Tree Term) (key : ℕ) (p : Posting) : Type 0 where
  pub loses : (t : Term) (postings : List Posting) → IsLeaf old key t postings
      → Loses old new t p
  pub keeps : KeepsLeaves old new
  pub stays : IsEmptyLeaf new key
  pub due : IsJoinDue old key
  pub unmerged : unmerged_count new ≡ unmerged_count old + 1

-- The leaf's term loses the posting, and other terms keep theirs. The leaf stays without a posting
-- only where a join is due; elsewhere there are no more such leaves than before, and there one more
-- at most.
pub record RemovesPosting (old new : Tree Term) (key : ℕ) (p : Posting) : Type 0 where
  pub loses : (t : Term) (postings : List Posting) → IsLeaf old key t postings
      → Loses old new t p
  pub keeps : KeepsLeaves old new
  pub stays : (t : Term) → IsLeaf new key t [] → IsJoinDue old key
  pub unmerged : unmerged_count new ≤ unmerged_count old + 1
  pub only_due : (IsJoinDue old key → ⊥) → unmerged_count new ≤ unmerged_count old
