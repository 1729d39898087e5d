-- What a tree stores: under each term a list of postings (this project's profile).
use Rattle.std.specs.Prelude.{◌≡◌, ◌≢◌, ℕ, ◌⊎◌, ◌↔◌, List, [], ◌∷◌, ◌++◌}
use Rattle.si_flat.specs.Cells.{Term}
use Rattle.si_legal.specs.declared.Posting.{Posting}
use Rattle.si_legal.specs.Trees.{Tree, IsLeaf, StandsIn}

-- the stored set as a finite map: the postings of the leaf with this term, and none where there is
-- no such leaf
abbrev pub AreUnder : Tree Term → Term → List Posting → Type 0
AreUnder tree t postings =
    ((key : ℕ) × IsLeaf tree key t postings)
    ⊎ (((key : ℕ) (others : List Posting) → IsLeaf tree key t others → ⊥) × (postings ≡ []))

-- the posting is one of those under the term
abbrev pub IsUnder : Tree Term → Term → Posting → Type 0
IsUnder tree t p = (key : ℕ) × StandsIn tree key t p

-- ---- how it changes
-- every other term has the postings that it had, and no others
abbrev pub OthersStay : Tree Term → Tree Term → Term → Type 0
OthersStay old new t =
    (u : Term) (postings : List Posting) → u ≢ t
    → AreUnder old u postings ↔ AreUnder new u postings

abbrev pub StaysStored : Tree Term → Tree Term → Type 0
StaysStored old new =
    (t : Term) (postings : List Posting) → AreUnder old t postings ↔ AreUnder new t postings

-- the posting comes last under the term
pub record Gains (old new : Tree Term) (t : Term) (p : Posting) : Type 0 where
  pub before : List Posting
  pub had : AreUnder old t before
  pub last : AreUnder new t (before ++ p ∷ [])
  pub others : OthersStay old new t

-- the posting goes, and the others under the term stay in order
pub record Loses (old new : Tree Term) (t : Term) (p : Posting) : Type 0 where
  pub before : List Posting
  pub after : List Posting
  pub had : AreUnder old t (before ++ p ∷ after)
  pub has : AreUnder new t (before ++ after)
  pub others : OthersStay old new t

-- a posting that stays stored under its term stays in its leaf
abbrev pub KeepsLeaves : Tree Term → Tree Term → Type 0
KeepsLeaves old new =
    (key : ℕ) (t : Term) (p : Posting)
    → StandsIn old key t p → IsUnder new t p → StandsIn new key t p
