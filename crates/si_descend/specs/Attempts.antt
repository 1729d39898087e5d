-- Which children of a node are tried, and at which places.
use Rattle.std.specs.Prelude.{◌≡◌, ℕ, zero, suc, ◌+◌, ◌≤◌, ◌<◌, ◌^◌, ◌⊎◌, length, Option, Some, slice_get}
use Rattle.si_defs.specs.Terms as terms
use Rattle.si_defs.specs.Substitutions.{IsAmong}
use Rattle.si_defs.specs.declared.Relation.{Relation}
use Rattle.si_flat.specs.declared.Cell.{Cell}
use Rattle.si_flat.specs.Cells.{entry, Term, cells_of}
use Rattle.si_unify.specs.declared.slots.Slots.{Slots}
use Rattle.si_tree.specs.declared.node.Head.{Head}
use Rattle.si_tree.specs.declared.node.Head.TheVariants.{Var}
use Rattle.si_tree.specs.Heads.{HasHead, IsChildBy}
use Rattle.si_tree.specs.KeptNodes.{AreKnown}
use Rattle.si_tree.specs.Reading.{AtNode, children_of}
use Rattle.si_tree.specs.Rights.{cell_head}
use Rattle.si_descend.specs.declared.attempts.Attempts.{Attempts}
use Rattle.si_descend.specs.declared.attempts.Attempts.TheVariants.{InOrder, ByHeads}
use Rattle.si_descend.specs.declared.heads.Wanted.{Wanted}
use Rattle.si_descend.specs.declared.search.Search.{Search}
use Rattle.si_fit.specs.Meeting.{first_cell_of}
use Rattle.si_descend.specs.Heads.{CannotMeet, RulesOut, SplitsBy}

-- ---- heads at places
-- first that of a term which begins with this cell, if it has one, and then each variable of an
-- entry
abbrev pub head_at : Cell → ℕ → Option Head
head_at first zero = cell_head first
head_at first (suc n) = Some (Var n)

-- the term's head is a symbol, or a variable of an entry below this number
abbrev pub HasHeadBelow : ℕ → Term → Type 0
HasHeadBelow vars (terms.app s ts) = Unit {0}
HasHeadBelow vars (terms.var (entry m)) = m < vars
HasHeadBelow vars t = ⊥

-- the head at this place is that of the term
abbrev pub IsPlaceOf : Cell → Term → ℕ → Type 0
IsPlaceOf first t place = (h : Head) × (head_at first place ≡ Some h) × HasHead t h

-- a term that can meet one which begins so has one of the heads before this place, which differ
pub record AreHeadsFor (relation : Relation) (slots : Slots) (vars : ℕ) (first : Cell) (end : ℕ)
    : Type 0 where
  pub few : end ≤ 1 + vars
  pub one : (i j : ℕ) (h : Head) → i < end → j < end
      → head_at first i ≡ Some h → head_at first j ≡ Some h → i ≡ j
  pub all : (t : Term) → HasHeadBelow vars t
      → ((place : ℕ) × (place < end) × IsPlaceOf first t place)
      ⊎ CannotMeet relation slots first (first_cell_of (cells_of t))

-- ---- children at places
-- the child is tried at this place
abbrev pub IsTried : Search → ℕ → Attempts → ℕ → ℕ → Type 0
IsTried search key (InOrder siblings) place child =
    slice_get siblings.children.now place ≡ Some child
IsTried search key (ByHeads heads) place child =
    (h : Head) × (head_at heads.wanted.first place ≡ Some h) × IsChildBy search.tree.now key h child

abbrev pub wanted_of : Attempts → Option Wanted
wanted_of (InOrder siblings) = siblings.wanted
wanted_of (ByHeads heads) = Some heads.wanted

-- the number of places
abbrev pub place_count : Attempts → ℕ
place_count (InOrder siblings) = length siblings.children.now
place_count (ByHeads heads) = heads.end

-- slices have all children and their heads, and heads to look up have so many places at most
abbrev pub HasPlaces : Search → ℕ → Attempts → Type 0
HasPlaces search key (InOrder siblings) =
    AtNode search.tree.now key (λ n. (siblings.children.now ≡ children_of n.content)
    × AreKnown search.tree.now n.content siblings.heads.now)
HasPlaces search key (ByHeads heads) = heads.end ≤ 1 + 2 ^ 32

abbrev pub IsTriedBefore : Search → ℕ → Attempts → ℕ → ℕ → Type 0
IsTriedBefore search key a end child =
    (place : ℕ) × (place < end) × IsTried search key a place child

-- each child that can be open is tried, and none at two places
pub record AreAttempts (search : Search) (key : ℕ) (a : Attempts) : Type 0 where
  pub places : HasPlaces search key a
  pub splits : SplitsBy search key (wanted_of a)
  pub one : (i j child : ℕ) → i < place_count a → j < place_count a
      → IsTried search key a i child → IsTried search key a j child → i ≡ j
  pub all : AtNode search.tree.now key (λ n. (child : ℕ) → IsAmong (children_of n.content) child
      → IsTriedBefore search key a (place_count a) child ⊎ RulesOut search (wanted_of a) child)
