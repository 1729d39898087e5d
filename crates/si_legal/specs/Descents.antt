-- What the search of a subtree answers: the postings of those of its leaves whose terms stand in
-- the relation to the query (this project's profile). And which maps solve the bindings of a path.
use Rattle.std.specs.Prelude.{◌≡◌, ℕ, List, [], ◌∷◌}
use Rattle.std.specs.List.{AllByRecursion}
use Rattle.si_defs.specs.Substitutions.{Substitution, apply, IsAmong}
use Rattle.si_defs.specs.Relations.{Relates}
use Rattle.si_defs.specs.declared.Relation.{Relation}
use Rattle.si_flat.specs.Cells.{Symbol, Variable, same_variable, Term}
use Rattle.si_legal.specs.declared.Posting.{Posting}
use Rattle.si_legal.specs.Bindings.{Binding, indicator}
use Rattle.si_legal.specs.Trees.{Tree, Path, PassesBy, IsLeaf}

-- the posting stands in a leaf at this node or below it, whose term is in the relation to the query
pub record IsAnswerBelow (tree : Tree Term) (top : ℕ) (relation : Relation) (q : Term)
    (p : Posting) : Type 0 where
  pub key : ℕ
  pub term : Term
  pub postings : List Posting
  pub leaf : IsLeaf tree key term postings
  pub below : PassesBy ((key, leaf.node) ∷ leaf.above) top
  pub relates : Relates same_variable relation q term
  pub among : IsAmong postings p

-- the map makes the left side of each binding equal to its right side
abbrev pub SolvesBindings : Substitution Symbol Variable → List Binding → Type 0
SolvesBindings s bs =
    AllByRecursion (λ b. apply same_variable s (indicator b.0) ≡ apply same_variable s b.1) bs

-- and so for all bindings of the path
abbrev pub SolvesPath : Substitution Symbol Variable → Path → Type 0
SolvesPath s [] = Unit {0}
SolvesPath s (step ∷ above) = SolvesBindings s step.1.bindings × SolvesPath s above
