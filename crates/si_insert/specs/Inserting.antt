-- What an insertion wants, and what it does.
use Rattle.std.specs.Prelude.{◌≡◌, ℕ, List, Option, None, Some}
use Rattle.si_flat.specs.declared.Cell.{Cell}
use Rattle.si_flat.specs.Cells.{Term, StandsFor}
use Rattle.si_legal.specs.declared.Posting.{Posting}
use Rattle.si_legal.specs.Trees.{Tree, IsLeaf, StandsIn}
use Rattle.si_legal.specs.StoredSets.{Gains, StaysStored, KeepsLeaves}
use Rattle.si_changes.specs.Nodes.{MayComeIn}

-- the posting may come into the tree under the term that these are the cells of
abbrev pub MayInsert : Tree Term → List Cell → Posting → Type 0
MayInsert tree cells p = (t : Term) × StandsFor cells t × MayComeIn tree t p

-- The posting comes last under the term, into this leaf. If there was a leaf for the term, with
-- postings or without, it is that one.
pub record Inserts (old new : Tree Term) (cells : List Cell) (p : Posting) (key : ℕ) : Type 0 where
  pub gains : (t : Term) → StandsFor cells t → Gains old new t p
  pub stands : (t : Term) → StandsFor cells t → StandsIn new key t p
  pub keeps : KeepsLeaves old new
  pub again : (t : Term) (k : ℕ) (postings : List Posting) → StandsFor cells t
      → IsLeaf old k t postings → k ≡ key

-- all that is stored stays, and so does each leaf, with postings or without
abbrev pub KeepsAll : Tree Term → Tree Term → Type 0
KeepsAll old new = StaysStored old new × KeepsLeaves old new
    × ((key : ℕ) (t : Term) (postings : List Posting) → IsLeaf old key t postings
    → IsLeaf new key t postings)

-- the posting was put in, or the tree is as before
abbrev pub Places : Tree Term → Tree Term → List Cell → Posting → Option ℕ → Type 0
Places old new cells p (Some key) = Inserts old new cells p key
Places old new cells p None = new ≡ old
