-- Substitution trees (Graf 1996) as plain data, and the paths in them. Each node has a key.
use Rattle.std.specs.Prelude.{◌≡◌, ℕ, ◌⊎◌, List, [], ◌∷◌, ◌++◌, Option, None, Some, slice_index_or}
use Rattle.si_defs.specs.Substitutions.{IsAmong}
use Rattle.si_flat.specs.declared.Cell.{Cell}
use Rattle.si_flat.specs.Cells.{Term}
use Rattle.si_legal.specs.declared.Posting.{Posting}
use Rattle.si_legal.specs.Bindings.{indicator, applied, right_indicators, StandForBindings}

-- an inner node has an indicator on which it splits, and the keys of its children; a leaf has
-- postings
pub data Content : Type 0 where
  inner : ℕ → List ℕ → Content
  leaf : List Posting → Content

-- a node with the key of its parent, if it has one, and its bindings, whose right sides are terms,
-- or terms in another form
pub record Node (R : Type 0) : Type 0 where
  pub parent : Option ℕ
  pub bindings : List (ℕ × R)
  pub content : Content

-- The nodes stand at their keys. All indicators of a tree are below `next`, and all variables below
-- `vars`.
pub record Tree (R : Type 0) : Type 0 where
  pub nodes : List (Option (Node R))
  pub root : ℕ
  pub next : ℕ
  pub vars : ℕ

abbrev pub HasNode : {R : Type 0} → Tree R → ℕ → Node R → Type 0
HasNode tree key node = slice_index_or tree.nodes key None ≡ Some node

-- ---- paths
-- a node with its key, and those above it, the nearest first
abbrev pub Path : Type 0
Path = List (ℕ × Node Term)

-- The path leads from the node with this key up to the root. No key stands for what is above the
-- root.
abbrev pub IsPath : Tree Term → Option ℕ → Path → Type 0
IsPath tree key [] = key ≡ None
IsPath tree key (step ∷ above) =
    (key ≡ Some step.0) × HasNode tree step.0 step.1 × IsPath tree step.1.parent above

-- the node with this key stands on the path
abbrev pub PassesBy : Path → ℕ → Type 0
PassesBy [] key = ⊥
PassesBy (step ∷ above) key = (step.0 ≡ key) ⊎ PassesBy above key

-- the path's term: indicator 0 with the bindings of the path applied, from the root on
abbrev pub path_term : Path → Term
path_term [] = indicator 0
path_term (step ∷ above) = applied step.1.bindings (path_term above)

-- the indicators that the path opens: 0, and those that occur on its right sides
abbrev pub opened : Path → List ℕ
opened [] = 0 ∷ []
opened (step ∷ above) = opened above ++ right_indicators step.1.bindings

-- ---- leaves
-- the node with this key is a leaf with this term and these postings
pub record IsLeaf (tree : Tree Term) (key : ℕ) (t : Term) (postings : List Posting) : Type 0 where
  pub node : Node Term
  pub above : Path
  pub reached : IsPath tree (Some key) ((key, node) ∷ above)
  pub content : node.content ≡ leaf postings
  pub term : t ≡ path_term ((key, node) ∷ above)

-- the leaf with this key has this term and, among others, this posting
abbrev pub StandsIn : Tree Term → ℕ → Term → Posting → Type 0
StandsIn tree key t p =
    (postings : List Posting) × IsLeaf tree key t postings × IsAmong postings p

-- ---- trees in cells
-- the same nodes, whose right sides are the cells of those terms
pub record StandsForNode (one : Node (List Cell)) (node : Node Term) : Type 0 where
  pub parent : one.parent ≡ node.parent
  pub bindings : StandForBindings one.bindings node.bindings
  pub content : one.content ≡ node.content

abbrev pub StandForNodes : List (Option (Node (List Cell))) → List (Option (Node Term)) → Type 0
StandForNodes [] [] = Unit {0}
StandForNodes (None ∷ ones) (None ∷ nodes) = StandForNodes ones nodes
StandForNodes (Some one ∷ ones) (Some node ∷ nodes) =
    StandsForNode one node × StandForNodes ones nodes
StandForNodes _ _ = ⊥

pub record StandsForTree (one : Tree (List Cell)) (tree : Tree Term) : Type 0 where
  pub nodes : StandForNodes one.nodes tree.nodes
  pub root : one.root ≡ tree.root
  pub next : one.next ≡ tree.next
  pub vars : one.vars ≡ tree.vars
