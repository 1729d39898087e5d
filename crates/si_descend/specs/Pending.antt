-- Nodes that a search is still to visit.
use Rattle.std.specs.Borrow.{Bor}
use Rattle.std.specs.Prelude.{◌≡◌, ℕ, ◌+◌, ◌≤◌, ◌⊎◌, Bool, true, false, ⊤, List, [], ◌∷◌, ◌++◌, Option, None, Some, length, map, take, Vec, vec_capacity}
use Rattle.std.specs.List.{AllByRecursion}
use Rattle.si_defs.specs.Substitutions.{IsAmong, AreDistinct, Grows}
use Rattle.si_trail.specs.Trails.{Trail}
use Rattle.si_flat.specs.declared.Cell.{Cell}
use Rattle.si_legal.specs.declared.Posting.{Posting}
use Rattle.si_legal.specs.Counts.{node_count}
use Rattle.si_unify.specs.Rooms.{SolverRoom}
use Rattle.si_unify.specs.Solving.{Pairs}
use Rattle.si_tree.specs.Reading.{IsNode, AtNode, children_of}
use Rattle.si_descend.specs.declared.pending.Pending.{Pending}
use Rattle.si_descend.specs.declared.search.Search.{Search}
use Rattle.si_descend.specs.Lending.{IsEnoughForTree, HasRoomForAnswers}
use Rattle.si_descend.specs.Searching.{AreOpenBelow, IsAboveNode, IsClosedAt, IsOpenAt}

-- ---- one of them
-- the trail as it was when it had so many bindings
abbrev pub cut_back : {T : Type 0} → ℕ → Trail T → Trail T
cut_back n trail = record { slots = trail.slots; pairs = take n trail.pairs }

-- The bindings of the nodes above it are solved. Or all nodes below it and at it are known to be
-- open.
abbrev pub MayVisit : Search → ℕ → Trail (Bor (List Cell)) → Trail ⊤ → Bool → Type 0
MayVisit search key trail taken false = IsAboveNode search key trail taken
MayVisit search key trail taken true = IsNode search.tree.now key × AreOpenBelow search key

-- so it is once the trails are as long as they were above it
pub record IsDue (search : Search) (trail : Trail (Bor (List Cell))) (taken : Trail ⊤)
    (p : Pending) : Type 0 where
  pub mark : p.mark ≤ length trail.pairs
  pub taken_mark : p.taken_mark ≤ length taken.pairs
  pub may : MayVisit search p.node (cut_back p.mark trail) (cut_back p.taken_mark taken) p.whole

-- one that is to be visited below those nodes whose bindings the trails hold
abbrev pub pending_at : ℕ → Trail (Bor (List Cell)) → Trail ⊤ → Pending
pending_at key trail taken =
    record { node = key; mark = length trail.pairs; taken_mark = length taken.pairs; whole = false }

-- ---- the children of an open node
-- these are children of the node, and each other child is closed
pub record AreToVisit (search : Search) (key : ℕ) (tops : List ℕ) : Type 0 where
  pub distinct : AreDistinct tops
  pub within : AtNode search.tree.now key (λ n. (child : ℕ) → IsAmong tops child
      → IsAmong (children_of n.content) child)
  pub others : AtNode search.tree.now key (λ n. (child : ℕ) → IsAmong (children_of n.content) child
      → IsAmong tops child ⊎ IsClosedAt search child)

-- how much was bound above a node, and whether all nodes below it and at it are known to be open
pub record Marks : Type 0 where
  pub mark : ℕ
  pub taken_mark : ℕ
  pub whole : Bool

abbrev pub marks_of : Pending → Marks
marks_of p = record { mark = p.mark; taken_mark = p.taken_mark; whole = p.whole }

-- these nodes, with these marks
abbrev pub with_marks : Marks → List ℕ → List Pending
with_marks m tops = map (λ key.
    record { node = key; mark = m.mark; taken_mark = m.taken_mark; whole = m.whole }) tops

-- those are put after the nodes that were pending, with marks that are no less than those of the
-- node
pub record PutsDue (search : Search) (next : Pending) (trail : Trail (Bor (List Cell)))
    (taken : Trail ⊤) (old new : List Pending) : Type 0 where
  pub tops : List ℕ
  pub marks : Marks
  pub visit : AreToVisit search next.node tops
  pub pushed : new ≡ old ++ with_marks marks tops
  pub due : AllByRecursion (IsDue search trail taken) (with_marks marks tops)
  pub mark : next.mark ≤ marks.mark
  pub taken_mark : next.taken_mark ≤ marks.taken_mark

-- ---- one step
-- the answer says whether the node is open; where it is, its children are pending
abbrev pub HasStepped : Search → Pending → Trail (Bor (List Cell)) → Trail ⊤ → List Pending
    → List Pending → Bool → Type 0
HasStepped search next trail taken old new true =
    IsOpenAt search next.node × PutsDue search next trail taken old new
HasStepped search next trail taken old new false = IsClosedAt search next.node × (new ≡ old)

-- ---- nodes that wait
-- no trail is shorter above one than above those before it, nor than these marks
abbrev pub IsRisingFrom : ℕ → ℕ → List Pending → Type 0
IsRisingFrom mark taken_mark [] = Unit {0}
IsRisingFrom mark taken_mark (p ∷ ps) =
    (mark ≤ p.mark) × (taken_mark ≤ p.taken_mark) × IsRisingFrom p.mark p.taken_mark ps

-- all that wait are as they were when they were put there, and the trails hold what they held at
-- first
pub record ArePending (search : Search) (base : Pairs) (first : List (ℕ × ⊤))
    (trail : Trail (Bor (List Cell))) (taken : Trail ⊤) (entries : List Pending) : Type 0 where
  pub due : AllByRecursion (IsDue search trail taken) entries
  pub rising : IsRisingFrom (length base) (length first) entries
  pub grows : Grows base trail.pairs
  pub taken_grows : Grows first taken.pairs

-- those that come after this one are closed
pub record IsNextOpen (search : Search) (entries front : List Pending) (next : Pending)
    (closed : List Pending) : Type 0 where
  pub are : entries ≡ (front ++ next ∷ []) ++ closed
  pub closed_are : AllByRecursion (λ p. IsClosedAt search p.node) closed

-- the last of them that is open was visited; or all are closed
pub record HasTurned (search : Search) (key : ℕ) (trail : Trail (Bor (List Cell)))
    (taken : Trail ⊤) (old new : List Pending) : Type 0 where
  pub front : List Pending
  pub next : Pending
  pub closed : List Pending
  pub is : IsNextOpen search old front next closed
  pub node : next.node ≡ key
  pub stepped : HasStepped search next trail taken front new true

abbrev pub HasTurnedTo : Search → Trail (Bor (List Cell)) → Trail ⊤ → List Pending → List Pending
    → Option ℕ → Type 0
HasTurnedTo search trail taken old new (Some key) = HasTurned search key trail taken old new
HasTurnedTo search trail taken old new None =
    AllByRecursion (λ p. IsClosedAt search p.node) old × (new ≡ [])

-- ---- what is lacking where memory runs out
-- room for the children of one of them beside those before it, or to solve; those after it are
-- closed
pub record LacksTurn {A : Type 0} (search : Search) (pairs : Pairs) (room : SolverRoom)
    (pending : Vec Pending A) : Type 0 where
  pub front : List Pending
  pub next : Pending
  pub closed : List Pending
  pub is : IsNextOpen search pending.items front next closed
  pub lack : AtNode search.tree.now next.node (λ node. (n : ℕ)
      → IsEnoughForTree n search.tree.now search.slots pairs room
      → length front + length (children_of node.content) ≤ vec_capacity pending → ⊥)

-- room for what is found below the node, for all nodes to be pending, or to solve
abbrev pub LacksRoom : {A B : Type 0} → Search → ℕ → Pairs → SolverRoom → Vec Pending A
    → Vec Posting B → Type 0
LacksRoom search top pairs room pending out =
    (n : ℕ) → IsEnoughForTree n search.tree.now search.slots pairs room
    → node_count search.tree.now ≤ vec_capacity pending
    → HasRoomForAnswers search.tree.now top search.relation search.query.now out → ⊥
