-- Indicators numbered anew: along each path, from 1, in the order in which they are opened (this
-- project's profile). Paths that part may then use the same numbers.
use Rattle.std.specs.Prelude.{◌≡◌, ℕ, suc, ◌<◌, List, map, length, Some}
use Rattle.si_defs.specs.Terms as terms
use Rattle.si_defs.specs.Substitutions.{IsAmong}
use Rattle.si_flat.specs.Cells.{Variable, query, entry, ind, Term}
use Rattle.si_legal.specs.Bindings.{Binding, right_indicators}
use Rattle.si_legal.specs.Generalizations.{consecutive}
use Rattle.si_legal.specs.Trees.{Content, inner, leaf, Node, Tree, HasNode, Path, IsPath, path_term, opened}

-- ---- one node
-- other variables stay
abbrev pub renumbered : (ℕ → ℕ) → Variable → Variable
renumbered to (query n) = query n
renumbered to (entry n) = entry n
renumbered to (ind n) = ind (to n)

abbrev pub renamed : (ℕ → ℕ) → Term → Term
renamed to t = terms.rename (renumbered to) t

abbrev pub renamed_bindings : (ℕ → ℕ) → List Binding → List Binding
renamed_bindings to bs = map (λ b. (to b.0, renamed to b.1)) bs

abbrev pub renamed_content : (ℕ → ℕ) → Content → Content
renamed_content to (inner split children) = inner (to split) children
renamed_content to (leaf postings) = leaf postings

-- One map takes the term of the path, the bindings and the split to the new ones. Its parent and
-- its children stay, and so do its postings.
pub record IsRenamedNode (above : Path) (node : Node Term) (new_above : Path)
    (new : Node Term) : Type 0 where
  pub to : ℕ → ℕ
  pub term : path_term new_above ≡ renamed to (path_term above)
  pub parent : new.parent ≡ node.parent
  pub bindings : new.bindings ≡ renamed_bindings to node.bindings
  pub content : new.content ≡ renamed_content to node.content

-- what the node opens has the next numbers, after as many as are opened above it
abbrev pub OpensInOrder : Path → Node Term → Type 0
OpensInOrder above node =
    let opens = right_indicators node.bindings in
    opens ≡ consecutive (length (opened above)) (length opens)

-- ---- the tree
pub record IsRenamedAt (old tree : Tree Term) (key : ℕ) (node new : Node Term) : Type 0 where
  pub above : Path
  pub reached : IsPath old node.parent above
  pub new_above : Path
  pub new_reached : IsPath tree new.parent new_above
  pub renamed_node : IsRenamedNode above node new_above new
  pub in_order : OpensInOrder new_above new

-- an indicator that some path of the tree opens; the root opens 0
abbrev pub IsOpened : Tree Term → ℕ → Type 0
IsOpened tree n =
    (key : ℕ) × (path : Path) × IsPath tree (Some key) path × IsAmong (opened path) n

-- `next` is one above the greatest indicator
pub record IsNextAfter (tree : Tree Term) : Type 0 where
  pub above : (n : ℕ) → IsOpened tree n → n < tree.next
  pub least : (n : ℕ) × IsOpened tree n × (tree.next ≡ suc n)

pub record IsRenumbered (old new : Tree Term) : Type 0 where
  pub root : new.root ≡ old.root
  pub vars : new.vars ≡ old.vars
  pub nodes : (key : ℕ) (node : Node Term) → HasNode old key node
      → (other : Node Term) × HasNode new key other × IsRenamedAt old new key node other
  pub no_others : (key : ℕ) (other : Node Term) → HasNode new key other
      → (node : Node Term) × HasNode old key node
  pub next : IsNextAfter new
