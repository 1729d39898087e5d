-- A search for entries: what it is made of, what it asks of them, and what it has gathered.
use Rattle.std.specs.Prelude.{◌≡◌, ℕ, ◌≤◌, List, length, map, Option, Some, None, slice_get}
use Rattle.std.specs.List.{AllByRecursion}
use Rattle.si_defs.specs.Bytes.{Bytes}
use Rattle.si_defs.specs.Terms.{size, sizes, symbols, symbols_of_all}
use Rattle.si_defs.specs.Symbols.{Numbering, IsNumbering}
use Rattle.si_defs.specs.Clauses.{Term, Terms, Clause, Pattern, literal_pattern, term_pattern, IsSoundTerm, AreSoundTerms, IsSoundClause, IsSoundPattern}
use Rattle.si_defs.specs.Entries.{Entry, literal_entry, term_entry, Placed, pattern_entry, clause_symbols, distinct_variables, whole_of}
use Rattle.si_defs.specs.Variables.{Solution}
use Rattle.si_defs.specs.declared.TheConstants.{MOST_OCCURRENCES}
use Rattle.si_defs.specs.declared.Relation.{Relation}
use Rattle.si_state.specs.Signatures.{numbering}
use Rattle.si_state.specs.Answers.{Stands, Solves}
use Rattle.si_term.specs.Meaning.{pattern_of, entry_of, clause_of, place_of}
use Rattle.si_flat.specs.declared.Cell.{Cell}
use Rattle.si_flat.specs.Cells as cells
use Rattle.si_flat.specs.Cells.{StandsFor}
use Rattle.si_flat.specs.Numbered.{number_in}
use Rattle.si_flat.specs.Flattened.{IsNumberedBy, IsSoundEntry, FlattensPattern, numbered_entry, query_numbers}
use Rattle.si_form.specs.declared.solution.Binding.{Binding}
use Rattle.si_form.specs.Answers.{Answers, StandsForList}
use Rattle.si_form.specs.Numberings.{variable_by, list_by, symbols_of}
use Rattle.si_form.specs.SolutionParts.{IsBindingOf}
use Rattle.si_form.specs.TableNumbers.{HaveNumbers}
use Rattle.si_legal.specs.declared.Posting.{Posting}
use Rattle.si_legal.specs.Trees.{Tree, IsLeaf}
use Rattle.si_held.specs.TwoTrees.{tree_for}
use Rattle.si_index.specs.Engines.{asks_literals}
use Rattle.si_index.specs.Leaves.{HasLeafAt, HasMade}
use Rattle.si_index.specs.Slots.{HasSlots}
use Rattle.si_index.specs.declared.search.Search.{Search}
use Rattle.si_index.specs.declared.wanted.Leaf.{Leaf}
use Rattle.si_index.specs.declared.gather.Match.{Match}
use Rattle.si_index.specs.declared.gather.Matches.{Matches}

-- ---- what is searched for
abbrev pub numbers_of : Search → Numbering
numbers_of s = numbering s.signature.now

abbrev pub pattern_in : Search → Pattern
pattern_in s = pattern_of s.pattern.now

-- only literals of one sign are compared, and terms with terms
abbrev pub AreCompared : Pattern → Entry → Type 0
AreCompared (literal_pattern l) (literal_entry k) = l.positive ≡ k.positive
AreCompared (term_pattern t) (term_entry u) = Unit {0}
AreCompared (literal_pattern l) (term_entry u) = ⊥
AreCompared (term_pattern t) (literal_entry k) = ⊥

-- ---- what is searched: terms and clauses that are sound, and whose symbols have numbers
pub record IsKnownTerm (numbers : Numbering) (t : Term) : Type 0 where
  pub sound : IsSoundTerm t
  pub numbered : HaveNumbers numbers (symbols t)
  pub small : size t ≤ MOST_OCCURRENCES

pub record AreKnownTerms (numbers : Numbering) (ts : Terms) : Type 0 where
  pub sound : AreSoundTerms ts
  pub numbered : HaveNumbers numbers (symbols_of_all ts)
  pub small : sizes ts ≤ MOST_OCCURRENCES

pub record IsKnownEntry (numbers : Numbering) (e : Entry) : Type 0 where
  pub sound : IsSoundEntry e
  pub numbered : HaveNumbers numbers (symbols (whole_of e))

pub record IsKnownClause (numbers : Numbering) (c : Clause) : Type 0 where
  pub sound : IsSoundClause c
  pub numbered : HaveNumbers numbers (clause_symbols c)

-- ---- the search can begin: its clauses are those of the index, and are known
pub record IsReadyToSearch (s : Search) : Type 0 where
  pub numbering : IsNumbering (numbers_of s)
  pub sound : IsSoundPattern (pattern_in s)
  pub flat : FlattensPattern (numbers_of s) (pattern_in s) s.query
  pub slots : HasSlots s.index.now s.slots
  pub known : AllByRecursion (IsKnownClause (numbers_of s)) s.index.now.clauses

-- ---- what an entry is answered
-- the entry stands in the relation, and has a canonical list
pub record HasCanonicalSolution (relation : Relation) (p : Pattern) (e : Entry) : Type 0 where
  pub stands : Stands relation p e
  pub solution : Solution
  pub solves : Solves relation p e solution

-- so it is with the entry of each hit
abbrev pub HaveCanonicalSolutions : Relation → Pattern → List (ℕ × Placed) → Type 0
HaveCanonicalSolutions relation p hits =
    AllByRecursion (λ hit. HasCanonicalSolution relation p hit.1.entry) hits

-- the entry stands in the relation, and the bindings stand for its canonical list
pub record SolvesEntry (relation : Relation) (numbers : Numbering) (p : Pattern) (e : Entry)
    (bindings : List Binding) : Type 0 where
  pub stands : Stands relation p e
  pub solution : Solution
  pub solves : Solves relation p e solution
  pub parts : AllByRecursion (IsBindingOf (whole_of (pattern_entry p)) (whole_of e)) solution
  pub symbols : HaveNumbers numbers (symbols_of (whole_of (pattern_entry p)) (whole_of e))
  pub list : StandsForList bindings
      (list_by (number_in numbers)
      (variable_by (distinct_variables (pattern_entry p)) (distinct_variables e)) solution)

abbrev pub AnswersEntry : Relation → Numbering → Pattern → Entry → Option (List Binding) → Type 0
AnswersEntry relation numbers p e None = Stands relation p e → ⊥
AnswersEntry relation numbers p e (Some bindings) = SolvesEntry relation numbers p e bindings

-- ---- terms and leaves
-- the entry's term, by the numbers of the search
abbrev pub term_in : Search → Entry → cells.Term
term_in s e = numbered_entry (numbers_of s) cells.entry e

-- the tree that is asked
abbrev pub tree_in : Search → Tree cells.Term
tree_in s = tree_for (asks_literals (pattern_in s)) s.index.now.trees

-- Cells of the term are answered these bindings. Entries of which it is the term have them for
-- their canonical list.
pub record SolvesTerm (s : Search) (t : cells.Term) (bindings : List Binding) : Type 0 where
  pub flat : List Cell
  pub stands : StandsFor flat t
  pub numbered : IsNumberedBy cells.entry t
  pub answered : Answers s.relation s.query.flat flat (Some bindings)

-- the node is a leaf with this term
abbrev pub IsLeafOf : Tree cells.Term → ℕ → cells.Term → Type 0
IsLeafOf tree node t = (postings : List Posting) × IsLeaf tree node t postings

-- the leaf with this number has the entry's term
abbrev pub IsOfLeaf : Search → List Leaf → ℕ → Entry → Type 0
IsOfLeaf s leaves n e =
    (node : ℕ) × HasLeafAt leaves n node × IsLeafOf (tree_in s) node (term_in s e)

-- the lists that are made are those of the leaves' terms
abbrev pub AreMade : Search → List Leaf → Type 0
AreMade s leaves =
    (n : ℕ) (list : List Binding) → HasMade leaves n list
    → (node : ℕ) × HasLeafAt leaves n node
    × ((t : cells.Term) × IsLeafOf (tree_in s) node t × SolvesTerm s t list)

-- ---- what was gathered
-- the clause stands at this position of the index
abbrev pub IsThere : Search → ℕ → Clause → Type 0
IsThere s position c = slice_get s.index.now.clauses position ≡ Some c

-- the leaf with this number has a list, which solves the entry
abbrev pub HasList : Search → Entry → (leaves : List Leaf) → ℕ → Type 0
HasList s e leaves n =
    (list : List Binding) × HasMade leaves n list
    × SolvesEntry s.relation (query_numbers (numbers_of s) s.query.extra) (pattern_in s) e list

-- an entry that stands in the relation, with the number of its leaf, the names of its variables,
-- and the clause of its position
pub record IsMatch (s : Search) (leaves : List Leaf) (m : Match) : Type 0 where
  pub list : HasList s (entry_of m.entry) leaves m.leaf
  pub are_names : map (λ name. name.now) m.names.items ≡ distinct_variables (entry_of m.entry)
  pub there : IsThere s m.hit.clause (clause_of m.clause.now)

abbrev pub AreMatches : Search → Matches → Type 0
AreMatches s ms = AllByRecursion (IsMatch s ms.leaves.items) ms.found.items

-- the match as a hit
abbrev pub hit_of : Match → ℕ × Placed
hit_of m = (m.hit.clause, record { entry = entry_of m.entry; place = place_of m.hit.place })

-- what was found in an index: no more than its clauses may have
pub record IsFound (s : Search) (query_names : List Bytes) (ms : Matches) : Type 0 where
  pub numbers : numbers_of s ≡ s.index.now.numbers
  pub ready : IsReadyToSearch s
  pub names : query_names ≡ distinct_variables (pattern_entry (pattern_in s))
  pub few : length ms.found.items ≤ MOST_OCCURRENCES
  pub each : AreMatches s ms
