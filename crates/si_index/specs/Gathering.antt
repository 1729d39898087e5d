-- How the hits are made of an engine's answers: where their entries stand, in order, and a walk
-- through each clause.
use Rattle.std.specs.Prelude.{◌≡◌, ◌⊎◌, ℕ, ◌<◌, ◌≤◌, List, [], ◌∷◌, ◌++◌, Some, map, drop, slice_get}
use Rattle.std.specs.List.{AllByRecursion, AllZip}
use Rattle.std.specs.List.Sorted.{IsPermutation}
use Rattle.si_defs.specs.Entries.{Placed, entries}
use Rattle.si_state.specs.Answers.{Stands}
use Rattle.si_term.specs.Meaning.{clause_of}
use Rattle.si_term.specs.declared.clause.Clause.{Clause}
use Rattle.si_entries.specs.Walks.{IsSmall, left_of}
use Rattle.si_flat.specs.Cells.{Term}
use Rattle.si_legal.specs.declared.Posting.{Posting}
use Rattle.si_legal.specs.StoredSets.{IsUnder}
use Rattle.si_legal.specs.Trees.{Tree, StandsIn}
use Rattle.si_index.specs.Leaves.{HasLeafAt, AreUnmade}
use Rattle.si_index.specs.Searching.{pattern_in, IsReadyToSearch, AreMatches, IsOfLeaf, hit_of}
use Rattle.si_index.specs.Slots.{Slots, IsIn}
use Rattle.si_index.specs.declared.gather.ClauseWalk.{ClauseWalk}
use Rattle.si_index.specs.declared.gather.Matches.{Matches}
use Rattle.si_index.specs.declared.search.Search.{Search}
use Rattle.si_index.specs.declared.wanted.Leaf.{Leaf}
use Rattle.si_index.specs.declared.wanted.Ordered.{Ordered}
use Rattle.si_index.specs.declared.wanted.Wanted.{Wanted}

-- ---- where entries stand
-- the first pair of numbers stands before the second
abbrev pub IsLower : ℕ × ℕ → ℕ × ℕ → Type 0
IsLower a b = (a.0 < b.0) ⊎ ((a.0 ≡ b.0) × (a.1 < b.1))

-- the first entry stands before the second
abbrev pub IsBefore : Wanted → Wanted → Type 0
IsBefore a b = IsLower (a.slot, a.entry) (b.slot, b.entry)

-- each stands before all after it
abbrev pub Rise : List Wanted → Type 0
Rise [] = Unit {0}
Rise (w ∷ ws) = AllByRecursion (IsBefore w) ws × Rise ws

-- the entry of this posting stands there
abbrev pub IsPostingAt : Slots → Posting → Wanted → Type 0
IsPostingAt slots p w = IsIn slots w.slot p.clause × (w.entry ≡ p.entry)

-- the tree stores the posting
abbrev pub StoresPosting : Tree Term → Posting → Type 0
StoresPosting tree p = (t : Term) × IsUnder tree t p

-- the posting of the entry there is stored in the leaf with this number
pub record IsInLeaf (slots : Slots) (tree : Tree Term) (leaves : List Leaf) (w : Wanted)
    : Type 0 where
  pub key : ℕ
  pub has_key : IsIn slots w.slot key
  pub node : ℕ
  pub has_node : HasLeafAt leaves w.leaf node
  pub term : Term
  pub stands : StandsIn tree node term (record { clause = key; entry = w.entry })

-- it is where the entries of these postings stand, in order, and their leaves, of which no list is
-- made yet
pub record AreInOrder (slots : Slots) (tree : Tree Term) (postings : List Posting) (o : Ordered)
    : Type 0 where
  pub ordered : List Posting
  pub same : IsPermutation postings ordered
  pub each : AllZip (IsPostingAt slots) ordered o.places.items
  pub rise : Rise o.places.items
  pub in_leaves : AllByRecursion (IsInLeaf slots tree o.leaves.items) o.places.items
  pub unmade : AreUnmade o.leaves.items

-- the hit is the entry that stands there
pub record IsHitAt (slots : Slots) (w : Wanted) (hit : ℕ × Placed) : Type 0 where
  pub key : ℕ
  pub clause : Clause
  pub there : slice_get slots hit.0 ≡ Some (w.slot, (key, clause))
  pub numbered : slice_get (entries (clause_of clause)) w.entry ≡ Some hit.1

-- an entry stands there, it stands in the relation, and is of the leaf with this number
pub record IsStandingAt (s : Search) (leaves : List Leaf) (w : Wanted) : Type 0 where
  pub hit : ℕ × Placed
  pub at : IsHitAt s.slots w hit
  pub stands : Stands s.relation (pattern_in s) hit.1.entry
  pub of_leaf : IsOfLeaf s leaves w.leaf hit.1.entry

-- ---- a walk
-- it goes through the clause in its slot, and the entry that comes next has its number
pub record IsWalk (slots : Slots) (walk : ClauseWalk) : Type 0 where
  pub key : ℕ
  pub there : slice_get slots walk.position ≡ Some (walk.slot, (key, walk.clause.now))
  pub small : IsSmall walk.entries
  pub left : left_of walk.entries ≡ drop walk.next (entries (clause_of walk.clause.now))

-- it didn't pass what stands there
abbrev pub IsAhead : ClauseWalk → Wanted → Type 0
IsAhead walk w = walk.slot ≡ w.slot → walk.next ≤ w.entry

-- this hit was added
pub record AddsHit (s : Search) (hit : ℕ × Placed) (old new : Matches) : Type 0 where
  pub hits : map hit_of new.found.items ≡ map hit_of old.found.items ++ hit ∷ []
  pub each : AreMatches s new

-- ---- all that stand at some places
-- they stand there, in order, and nothing was found yet
pub record MayGather (s : Search) (places : List Wanted) (ms : Matches) : Type 0 where
  pub ready : IsReadyToSearch s
  pub unmade : AreUnmade ms.leaves.items
  pub stand : AllByRecursion (IsStandingAt s ms.leaves.items) places
  pub rise : Rise places
  pub none : ms.found.items ≡ []

-- what was found is what stands there
pub record AreGathered (s : Search) (places : List Wanted) (ms : Matches) : Type 0 where
  pub each : AreMatches s ms
  pub hits : AllZip (IsHitAt s.slots) places (map hit_of ms.found.items)
