-- What a descent finds.
use Rattle.std.specs.Borrow.{Bor}
use Rattle.std.specs.Prelude.{◌≡◌, ℕ, List, Result, IfOk, OnErr}
use Rattle.si_defs.specs.declared.Relation.{Relation}
use Rattle.si_defs.specs.Relations.{Relates}
use Rattle.si_trail.specs.Trails.{Trail}
use Rattle.si_flat.specs.declared.Cell.{Cell}
use Rattle.si_flat.specs.Cells.{same_variable, Term, StandsFor}
use Rattle.si_legal.specs.declared.Posting.{Posting}
use Rattle.si_legal.specs.Trees.{Tree}
use Rattle.si_legal.specs.Descents.{IsAnswerBelow}
use Rattle.si_legal.specs.OpenNodes.{CountsOpen}
use Rattle.si_legal.specs.Engines.{AppendsAnswers}
use Rattle.si_legal.specs.StoredSets.{IsUnder}

-- So many nodes are open below a node or at it, and the postings that were appended are those of
-- exactly the leaves there whose terms stand in the relation to the query, each once.
pub record Finds (tree : Tree Term) (top : ℕ) (relation : Relation) (query : List Cell)
    (old new : List Posting) (n : ℕ) : Type 0 where
  pub counts : (q : Term) → StandsFor query q → CountsOpen tree top relation q n
  pub appends : (q : Term) → StandsFor query q
      → AppendsAnswers (IsAnswerBelow tree top relation q) old new

-- What a descent promises. The list has what was found after what it had, at an error only what it
-- had, and the trail is as before.
pub record HasDescended {E : Type 0} (tree : Tree Term) (top : ℕ) (relation : Relation)
    (query : List Cell) (result : Result ℕ E) (old new : Trail (Bor (List Cell)))
    (before after : List Posting) : Type 0 where
  pub finds : IfOk result (Finds tree top relation query before after)
  pub err : OnErr result (after ≡ before)
  pub pairs : new.pairs ≡ old.pairs
  pub slots : new.slots ≡ old.slots

-- the posting is stored under a term in the relation
abbrev pub IsStoredAnswer : Tree Term → Relation → Term → Posting → Type 0
IsStoredAnswer tree relation q p =
    (t : Term) × IsUnder tree t p × Relates same_variable relation q t

-- so in the whole tree
pub record Retrieves (tree : Tree Term) (relation : Relation) (query : List Cell)
    (old new : List Posting) (n : ℕ) : Type 0 where
  pub counts : (q : Term) → StandsFor query q → CountsOpen tree tree.root relation q n
  pub appends : (q : Term) → StandsFor query q
      → AppendsAnswers (IsStoredAnswer tree relation q) old new
