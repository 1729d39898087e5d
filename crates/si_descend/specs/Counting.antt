-- What a search counts.
use Rattle.std.specs.Prelude.{◌≡◌, ℕ, ◌-◌, ◌^◌, min, List, [], length}
use Rattle.si_legal.specs.declared.Posting.{Posting}
use Rattle.si_legal.specs.Engines.{AreAnswers}
use Rattle.si_legal.specs.OpenNodes.{CountsOpen}
use Rattle.si_legal.specs.Trees.{Tree}
use Rattle.si_defs.specs.declared.Relation.{Relation}
use Rattle.si_flat.specs.declared.Cell.{Cell}
use Rattle.si_flat.specs.Cells.{Term, StandsFor}
use Rattle.si_descend.specs.declared.counting.Counted.{Counted}
use Rattle.si_descend.specs.declared.search.Search.{Search}
use Rattle.si_descend.specs.Answers.{IsStoredAnswer}
use Rattle.si_descend.specs.Searching.{HasFound}

-- the number, or the greatest that there is a place for
abbrev pub at_most : ℕ → ℕ
at_most n = min n (2 ^ 64 - 1)

-- those are the numbers of what a search that appends would find
abbrev pub HasCounted : Search → ℕ → Counted → Type 0
HasCounted search top c =
    (found : List Posting) × HasFound search top [] found c.passed
    × (c.answers ≡ at_most (length found))

-- the open nodes of the tree, and the postings of the stored terms in the relation
pub record CountsAnswers (tree : Tree Term) (relation : Relation) (query : List Cell)
    (c : Counted) : Type 0 where
  pub passed : (q : Term) → StandsFor query q → CountsOpen tree tree.root relation q c.passed
  pub answers : (q : Term) → StandsFor query q
      → (found : List Posting) × AreAnswers (IsStoredAnswer tree relation q) found
      × (c.answers ≡ at_most (length found))
