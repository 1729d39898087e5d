-- Walks over the subterms that are no variables, in preorder, and what they find.
use Rattle.std.specs.Prelude.{◌≡◌, ℕ, ◌+◌, List, [], ◌∷◌, ◌++◌, Some, length, map, slice_get}
use Rattle.si_defs.specs.Terms as terms
use Rattle.si_defs.specs.Clauses.{Term, Terms, Literal}
use Rattle.si_defs.specs.Entries.{Entry, literal_entry, term_entry}
use Rattle.si_term.specs.Terms.{term_of}
use Rattle.si_term.specs.declared.entries.Walk.{Walk}
use Rattle.si_term.specs.declared.entries.Walk.TheVariants as walk
use Rattle.si_term.specs.declared.entries.PathWalk.{PathWalk}
use Rattle.si_term.specs.declared.entries.PathWalk.TheVariants as path_walk

-- the subterms that are no variables, without their paths
abbrev mutual
  pub subterms : Term → List Term
  subterms (terms.var x) = []
  subterms (terms.app s ts) = terms.app s ts ∷ subterms_of_all ts

  pub subterms_of_all : Terms → List Term
  subterms_of_all terms.none = []
  subterms_of_all (terms.more t ts) = subterms t ++ subterms_of_all ts

-- an argument's number after a path that is written from its end
abbrev pub under : ℕ → List ℕ → List ℕ
under k path = path ++ k ∷ []

-- the paths of the same subterms, each from its end
abbrev mutual
  pub paths : Term → List (List ℕ)
  paths (terms.var x) = []
  paths (terms.app s ts) = [] ∷ paths_from 1 ts

  pub paths_from : ℕ → Terms → List (List ℕ)
  paths_from k terms.none = []
  paths_from k (terms.more t ts) = map (under k) (paths t) ++ paths_from (1 + k) ts

-- the entries of literals, without their places
abbrev pub entries_alone : List Literal → List Entry
entries_alone [] = []
entries_alone (l ∷ ls) =
    literal_entry l ∷ map term_entry (subterms_of_all (terms.arguments l.atom)) ++ entries_alone ls

-- The walk found the one with the number n of these, from 0, or n is greater and the rest of it is
-- left.
abbrev pub FindsInRow : List Term → ℕ → Walk → Type 0
FindsInRow ts n (walk.At t) = slice_get ts n ≡ Some (term_of t.now)
FindsInRow ts n (walk.Past left) = n ≡ length ts + left

abbrev pub FindsPath : List (List ℕ) → ℕ → PathWalk → Type 0
FindsPath ps n (path_walk.At path) = slice_get ps n ≡ Some path
FindsPath ps n (path_walk.Past left) = n ≡ length ps + left
