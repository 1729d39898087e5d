-- What an engine is asked, and what a search makes of its answers.
use Rattle.std.specs.Prelude.{◌≡◌, ◌↔◌, ◌⊎◌, ℕ, ◌+◌, Bool, List, [], ◌∷◌, ◌++◌}
use Rattle.si_defs.specs.Symbols.{Numbering}
use Rattle.si_defs.specs.Clauses.{Clause, Pattern, IsSoundPattern}
use Rattle.si_defs.specs.Entries.{Entry, Placed, pattern_entry, entries}
use Rattle.si_defs.specs.Relations.{Relates}
use Rattle.si_defs.specs.declared.Relation.{Relation}
use Rattle.si_state.specs.Answers.{Stands}
use Rattle.si_flat.specs.declared.Cell.{Cell}
use Rattle.si_flat.specs.declared.flatten.FlatQuery.{FlatQuery}
use Rattle.si_flat.specs.Cells.{entry, same_variable, Term, StandsFor}
use Rattle.si_flat.specs.Flattened.{FlattensPattern, numbered_entry}
use Rattle.si_legal.specs.declared.Posting.{Posting}
use Rattle.si_legal.specs.KeptTrees.{is_literal, IsPostingOf}
use Rattle.si_legal.specs.OpenNodes.{CountsOpen}
use Rattle.si_descend.specs.Answers.{IsStoredAnswer}
use Rattle.si_held.specs.TwoTrees.{TwoTrees, tree_for}
use Rattle.si_index.specs.Kept.{Kept, kept_clauses}
use Rattle.si_index.specs.Finding.{AreHits, entries_from_position}

-- ---- a question
-- what an engine answers, by whether literals are asked for, the relation and the query's cells
abbrev pub Answering : Type 1
Answering = Bool → Relation → List Cell → Posting → Type 0

-- and what it counts
abbrev pub Counting : Type 1
Counting = Bool → Relation → List Cell → ℕ → Type 0

-- a literal pattern is asked for among literals, and a term among subterms
abbrev pub asks_literals : Pattern → Bool
asks_literals p = is_literal (pattern_entry p)

-- these are the cells by which the pattern is asked for
abbrev pub AreAsked : Numbering → Pattern → List Cell → Type 0
AreAsked numbers p cells = (q : FlatQuery) × FlattensPattern numbers p q × (cells ≡ q.flat)

-- it is the posting of a kept entry that stands in the relation
abbrev pub IsOfStanding : Kept → Relation → Pattern → Posting → Type 0
IsOfStanding k relation p posting =
    (e : Entry) × IsPostingOf (kept_clauses k) posting e × Stands relation p e

-- asked for the pattern, the engine answers postings of kept entries in the relation alone
abbrev pub AnswersStanding : Answering → Kept → Relation → Pattern → Type 0
AnswersStanding answers k relation p =
    (cells : List Cell) → AreAsked k.numbers p cells
    → (posting : Posting) → answers (asks_literals p) relation cells posting
    → IsOfStanding k relation p posting

-- ---- the hits
-- the entries of a clause with this key and this position, each with its posting; the first has the
-- number n
abbrev pub posted_from : (key position n : ℕ) → List Placed → List (Posting × (ℕ × Placed))
posted_from key position n [] = []
posted_from key position n (e ∷ es) =
    (record { clause = key; entry = n }, (position, e)) ∷ posted_from key position (1 + n) es

-- those of clauses, each with its key, of which the first has the position k
abbrev pub posted_entries : ℕ → List (ℕ × Clause) → List (Posting × (ℕ × Placed))
posted_entries k [] = []
posted_entries k (c ∷ cs) = posted_from c.0 k 0 (entries c.1) ++ posted_entries (1 + k) cs

-- of these entries, in order, exactly those whose postings are among the answers
abbrev pub AreAnswered : (Posting → Type 0) → List (Posting × (ℕ × Placed))
    → List (ℕ × Placed) → Type 0
AreAnswered these [] hits = hits ≡ []
AreAnswered these (x ∷ xs) hits =
    (these x.0
    × ((others : List (ℕ × Placed)) × AreAnswered these xs others × (hits ≡ x.1 ∷ others)))
    ⊎ ((these x.0 → ⊥) × AreAnswered these xs hits)

-- the hits are the entries of exactly the answers to the pattern's question, in order, and so much
-- was counted
pub record FindsHits (answers : Answering) (count : Counting) (k : Kept) (relation : Relation)
    (p : Pattern) (hits : List (ℕ × Placed)) (passed : ℕ) : Type 0 where
  pub cells : List Cell
  pub asked : AreAsked k.numbers p cells
  pub answered : AreAnswered (answers (asks_literals p) relation cells)
      (posted_entries 0 (kept_clauses k)) hits
  pub counted : count (asks_literals p) relation cells passed

-- ---- engines over flat terms
-- The entry is of the kind that is asked for, and its flat term, with these numbers for its
-- symbols, stands in the relation to the query.
pub record IsWantedEntry (numbers : Numbering) (literal : Bool) (relation : Relation)
    (query : List Cell) (e : Entry) : Type 0 where
  pub kind : is_literal e ≡ literal
  pub term : Term
  pub stands : StandsFor query term
  pub relates : Relates same_variable relation term (numbered_entry numbers entry e)

-- it is the posting of a kept entry that is wanted
abbrev pub IsOfWanted : Kept → Answering
IsOfWanted k literal relation query p =
    (e : Entry) × IsPostingOf (kept_clauses k) p e
    × IsWantedEntry k.numbers literal relation query e

-- the answers are the postings of the kept entries that are wanted
abbrev pub AnswersWanted : Answering → Kept → Type 0
AnswersWanted answers k =
    (literal : Bool) (relation : Relation) (query : List Cell) (p : Posting)
    → answers literal relation query p ↔ IsOfWanted k literal relation query p

-- ---- trees as an engine
-- the posting is stored under a term that stands in the relation to the query
abbrev pub IsStoredFor : TwoTrees → Answering
IsStoredFor trees literal relation query p =
    (q : Term) × StandsFor query q × IsStoredAnswer (tree_for literal trees) relation q p

-- so many nodes are open for the query
abbrev pub CountsNodes : TwoTrees → Counting
CountsNodes trees literal relation query n =
    let tree = tree_for literal trees in
    (q : Term) × StandsFor query q × CountsOpen tree tree.root relation q n

-- asked for a pattern, the trees answer as `find` wants it, and its hits are then exactly the kept
-- entries in the relation
pub record TreesAnswer (k : Kept) : Type 0 where
  pub standing : (relation : Relation) (p : Pattern) → IsSoundPattern p
      → AnswersStanding (IsStoredFor k.trees) k relation p
  pub complete : (relation : Relation) (p : Pattern) (hits : List (ℕ × Placed)) (passed : ℕ)
      → IsSoundPattern p
      → FindsHits (IsStoredFor k.trees) (CountsNodes k.trees) k relation p hits passed
      → AreHits relation p (entries_from_position 0 k.clauses) hits
