-- Which substitution trees are legal (the idea is Graf's, 1996; every rule is this project's
-- profile).
use Rattle.std.specs.Prelude.{◌≡◌, ◌≢◌, ℕ, ◌<◌, ◌≤◌, ◌↔◌, false, List, [], ◌∷◌, length, None, Some}
use Rattle.std.specs.List.{AllByRecursion}
use Rattle.si_defs.specs.Terms as terms
use Rattle.si_defs.specs.Substitutions.{IsAmong, AreDistinct}
use Rattle.si_defs.specs.declared.TheConstants.{MOST_OCCURRENCES}
use Rattle.si_flat.specs.Cells.{Variable, query, entry, ind, Term, IsSound}
use Rattle.si_flat.specs.Flattened.{IsNumberedBy}
use Rattle.si_legal.specs.declared.Posting.{Posting}
use Rattle.si_flat.specs.Rows.{left_sides}
use Rattle.si_legal.specs.Bindings.{Binding, indicators, HasNoBareIndicator}
use Rattle.si_legal.specs.Generalizations.{same_head}
use Rattle.si_legal.specs.Trees.{Content, inner, leaf, Node, Tree, HasNode, Path, IsPath, path_term, opened, IsLeaf, StandsIn}

-- ---- indicators
-- An indicator is open below a path that opens it and doesn't bind it. On a path that opens each
-- once, just these stand in the path's term.
abbrev pub IsOpenBelow : Path → ℕ → Type 0
IsOpenBelow path n = IsAmong (indicators (path_term path)) n

-- each indicator is opened once on the path
abbrev pub OpensOnce : Path → Type 0
OpensOnce path = AreDistinct (opened path)

-- ---- bindings
-- a tree has no variable of a query, and the others are below the bounds
abbrev pub IsWithin : Tree Term → Variable → Type 0
IsWithin tree (query n) = ⊥
IsWithin tree (entry n) = n < tree.vars
IsWithin tree (ind n) = n < tree.next

-- the node binds none but indicators that are open below these, each once
pub record AreLegalBindings (tree : Tree Term) (above : Path)
    (bindings : List Binding) : Type 0 where
  pub lefts : AllByRecursion (IsOpenBelow above) (left_sides bindings)
  pub distinct : AreDistinct (left_sides bindings)
  pub rights : HasNoBareIndicator bindings
  pub within : AllByRecursion (λ b. AllByRecursion (IsWithin tree) (terms.variables b.1)) bindings

-- ---- inner nodes
-- exactly these nodes have this one as their parent
abbrev pub AreChildren : Tree Term → ℕ → List ℕ → Type 0
AreChildren tree key children =
    (child : ℕ) → IsAmong children child
    ↔ ((node : Node Term) × HasNode tree child node × (node.parent ≡ Some key))

-- the child binds the indicator to this term
abbrev pub ChildBinds : Tree Term → ℕ → ℕ → Term → Type 0
ChildBinds tree child n t =
    (node : Node Term) × HasNode tree child node × IsAmong node.bindings (n, t)

-- Each child binds the split, and no two to terms of the same head.
abbrev pub ChildrenDiffer : Tree Term → ℕ → List ℕ → Type 0
ChildrenDiffer tree split [] = Unit {0}
ChildrenDiffer tree split (child ∷ children) =
    ((t : Term) × ChildBinds tree child split t
    × AllByRecursion
    (λ other. (u : Term) → ChildBinds tree other split u → same_head t u ≡ false) children)
    × ChildrenDiffer tree split children

-- the root may have no child or one; every other inner node has two at least
abbrev pub HasEnoughChildren : Tree Term → ℕ → List ℕ → Type 0
HasEnoughChildren tree key children = key ≢ tree.root → 2 ≤ length children

-- ---- leaves
-- A leaf's term has no indicator, its variables are numbered from 0 by first occurrence, and each
-- of its symbols has as many arguments as its arity.
pub record IsLeafTerm (t : Term) : Type 0 where
  pub sound : IsSound t
  pub numbered : IsNumberedBy entry t
  pub size : terms.size t ≤ MOST_OCCURRENCES

-- ---- nodes
abbrev pub IsLegalContent : Tree Term → ℕ → Path → Content → Type 0
IsLegalContent tree key path (inner split children) =
    IsOpenBelow path split × AreChildren tree key children × ChildrenDiffer tree split children
    × HasEnoughChildren tree key children
IsLegalContent tree key path (leaf postings) =
    AreChildren tree key [] × IsLeafTerm (path_term path) × AreDistinct postings

pub record IsLegalNode (tree : Tree Term) (key : ℕ) (node : Node Term) : Type 0 where
  pub above : Path
  pub reached : IsPath tree node.parent above
  pub only_root : node.parent ≡ None → key ≡ tree.root
  pub binds : AreLegalBindings tree above node.bindings
  pub opens : OpensOnce ((key, node) ∷ above)
  pub content : IsLegalContent tree key ((key, node) ∷ above) node.content

-- ---- trees
-- the root binds nothing and splits on indicator 0
pub record IsRoot (node : Node Term) : Type 0 where
  pub parent : node.parent ≡ None
  pub bindings : node.bindings ≡ []
  pub splits : (children : List ℕ) × (node.content ≡ inner 0 children)

pub record IsLegal (tree : Tree Term) : Type 0 where
  pub root : (node : Node Term) × HasNode tree tree.root node × IsRoot node
  pub nodes : (key : ℕ) (node : Node Term) → HasNode tree key node → IsLegalNode tree key node
  -- no two leaves have the same term, and no posting stands in two of them
  pub terms_differ : (j k : ℕ) (t : Term) (ps qs : List Posting)
      → IsLeaf tree j t ps → IsLeaf tree k t qs → j ≡ k
  pub postings_differ : (j k : ℕ) (t u : Term) (p : Posting)
      → StandsIn tree j t p → StandsIn tree k u p → j ≡ k
  pub zero_known : 0 < tree.next
  pub few_variables : tree.vars ≤ MOST_OCCURRENCES
