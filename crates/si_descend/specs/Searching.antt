-- What the search of a tree knows at a node, and what it finds below it.
use Rattle.std.specs.Borrow.{Bor}
use Rattle.std.specs.Prelude.{ℕ, zero, suc, ◌<◌, ◌≤◌, ◌^◌, length, Bool, true, false, ⊤, List, Option, None, Some, slice_index_or}
use Rattle.si_defs.specs.declared.Relation.{Relation}
use Rattle.si_defs.specs.declared.Relation.TheVariants.{Variants}
use Rattle.si_flat.specs.declared.Cell.{Cell}
use Rattle.si_flat.specs.Cells.{Term, StandsFor}
use Rattle.si_trail.specs.Trails.{Trail}
use Rattle.si_unify.specs.declared.slots.Slots.{Slots}
use Rattle.si_unify.specs.Solving.{Pairs, AllowsSolving}
use Rattle.si_legal.specs.declared.Posting.{Posting}
use Rattle.si_legal.specs.Counts.{node_count}
use Rattle.si_legal.specs.Trees.{Node, Tree, Path, IsPath, PassesBy, path_term}
use Rattle.si_legal.specs.Legal.{IsLegal}
use Rattle.si_legal.specs.OpenNodes.{IsOpen}
use Rattle.si_descend.specs.declared.search.Search.{Search}
use Rattle.si_descend.specs.Descending.{Freezes, HasSlotsForTree, ShowsPath, IsQueryTerm}
use Rattle.si_descend.specs.Answers.{Finds}
use Rattle.si_fit.specs.Fitting.{HasSolution}
use Rattle.si_tree.specs.Reading.{IsNode, AtNode}
use Rattle.si_descend.specs.Renaming.{AreTaken, IsRenaming}

-- what a search is for
pub record IsReady (search : Search) : Type 0 where
  pub legal : IsLegal search.tree.now
  pub small : node_count search.tree.now < 2 ^ 64
  pub term : Term
  pub query : IsQueryTerm search.query.now term
  pub freezes : Freezes search.relation search.slots
  pub room : HasSlotsForTree search.slots search.tree.now term

-- ---- at a node
abbrev pub KeepsApart : Relation → Slots → Pairs → Type 0
KeepsApart Variants slots pairs = IsRenaming slots pairs
KeepsApart relation slots pairs = Unit {0}

-- where variants are sought, the second trail binds those of the query's variables that an entry's
-- became, or none yet
abbrev pub NotesTaken : {T : Type 0} → Relation → Slots → Pairs → Trail T → Type 0
NotesTaken Variants slots pairs taken =
    AreTaken slots pairs (length pairs) taken.pairs × (slots.query ≤ taken.slots)
NotesTaken relation slots pairs taken = Unit {0}

-- The bindings of the node with this key and of those above it are solved. No key stands for what
-- is above the root.
pub record HasComeTo (search : Search) (key : Option ℕ) (pairs : Pairs) : Type 0 where
  pub shows : (q : Term) (path : Path)
      → StandsFor search.query.now q → IsPath search.tree.now key path
      → ShowsPath search.slots pairs q path
  pub solution : HasSolution search.slots pairs
  pub apart : KeepsApart search.relation search.slots pairs

abbrev pub IsOpenAt : Search → ℕ → Type 0
IsOpenAt search key =
    (q : Term) (path : Path)
    → StandsFor search.query.now q → IsPath search.tree.now (Some key) path
    → IsOpen search.relation q (path_term path)

abbrev pub IsClosedAt : Search → ℕ → Type 0
IsClosedAt search key =
    (q : Term) (path : Path)
    → StandsFor search.query.now q → IsPath search.tree.now (Some key) path
    → IsOpen search.relation q (path_term path) → ⊥

-- all nodes that stand below this one or at it
abbrev pub AreOpenBelow : Search → ℕ → Type 0
AreOpenBelow search top =
    (q : Term) (key : ℕ) (path : Path)
    → StandsFor search.query.now q → IsPath search.tree.now (Some key) path → PassesBy path top
    → IsOpen search.relation q (path_term path)

abbrev pub HasEntered : Search → ℕ → Pairs → Bool → Type 0
HasEntered search key pairs true = HasComeTo search (Some key) pairs × IsOpenAt search key
HasEntered search key pairs false = IsClosedAt search key

-- ---- what is known on the way
-- The bindings on the trail are solved, and it is noted what became of the variables of an entry.
pub record IsDescending (search : Search) (trail : Trail (Bor (List Cell))) (taken : Trail ⊤)
    : Type 0 where
  pub ready : IsReady search
  pub solving : AllowsSolving search.slots trail.pairs trail.slots
  pub noted : NotesTaken search.relation search.slots trail.pairs taken

-- so are those of this node, and of the nodes above it
pub record IsAtNode (search : Search) (key : ℕ) (trail : Trail (Bor (List Cell)))
    (taken : Trail ⊤) : Type 0 where
  pub node : IsNode search.tree.now key
  pub searching : IsDescending search trail taken
  pub there : HasComeTo search (Some key) trail.pairs

-- only those of the nodes above it are
pub record IsAboveNode (search : Search) (key : ℕ) (trail : Trail (Bor (List Cell)))
    (taken : Trail ⊤) : Type 0 where
  pub node : IsNode search.tree.now key
  pub searching : IsDescending search trail taken
  pub above : AtNode search.tree.now key (λ n. HasComeTo search n.parent trail.pairs)

-- ---- what is found
abbrev pub HasFound : Search → ℕ → List Posting → List Posting → ℕ → Type 0
HasFound search top = Finds search.tree.now top search.relation search.query.now

-- ---- how far down a node stands
abbrev pub one_deeper : (Option ℕ → ℕ) → Option (Node Term) → ℕ
one_deeper above None = 0
one_deeper above (Some node) = suc (above node.parent)

-- the number of nodes on its path, where that is no more than this
abbrev pub depth_within : ℕ → Tree Term → Option ℕ → ℕ
depth_within most tree None = 0
depth_within zero tree (Some key) = 0
depth_within (suc most) tree (Some key) =
    one_deeper (depth_within most tree) (slice_index_or tree.nodes key None)

abbrev pub depth : Tree Term → ℕ → ℕ
depth tree key = depth_within (node_count tree) tree (Some key)
