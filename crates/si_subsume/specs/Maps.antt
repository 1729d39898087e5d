-- Maps from the arguments of one flat term to those of another: the literals of two clauses.
use Rattle.std.specs.Prelude.{◌≡◌, ℕ, ◌-◌, ◌<◌, ◌^◌, List, [], ◌∷◌, Option}
use Rattle.std.specs.List.{AllByRecursion}
use Rattle.std.specs.Borrow.{Bor}
use Rattle.si_defs.specs.Terms as terms
use Rattle.si_defs.specs.Substitutions.{Substitution, image, apply}
use Rattle.si_state.specs.Subsumption.{AreImages, AnswersLeast}
use Rattle.si_flat.specs.declared.Cell.{Cell}
use Rattle.si_flat.specs.declared.Cell.TheVariants as cell
use Rattle.si_flat.specs.declared.Owner.{Owner}
use Rattle.si_flat.specs.declared.Owner.TheVariants.{Query, Entry}
use Rattle.si_flat.specs.Cells.{Symbol, entry, Variable, same_variable, IsWhole, Term, Terms, StandsFor}

-- One substitution, which leaves the entry's variables, takes each of these terms to the one that
-- the map tells.
pub record IsFlatMapBy (cs ds : List Term) (ns : List ℕ)
    (s : Substitution Symbol Variable) : Type 0 where
  pub stay : (n : ℕ) → image same_variable s (entry n) ≡ terms.var (entry n)
  pub taken : AreImages (λ t u. apply same_variable s t ≡ u) ds cs ns

abbrev pub IsFlatMap : List Term → List Term → List ℕ → Type 0
IsFlatMap cs ds ns = (s : Substitution Symbol Variable) × IsFlatMapBy cs ds ns s

-- the least map between the arguments of two terms, and none where there is none
abbrev pub AnswersFlat : List Cell → List Cell → Option (List ℕ) → Type 0
AnswersFlat c d answer =
    (t u : Term) → StandsFor c t → StandsFor d u
    → AnswersLeast
    (IsFlatMap (terms.list (terms.arguments t)) (terms.list (terms.arguments u))) answer

-- the arguments begin with symbols
abbrev pub IsNoVariable : Term → Type 0
IsNoVariable (terms.var x) = ⊥
IsNoVariable (terms.app s ts) = Unit {0}

abbrev pub HasHeads : List Cell → Type 0
HasHeads cells = (t : Term) → StandsFor cells t
    → AllByRecursion IsNoVariable (terms.list (terms.arguments t))

-- ---- cells
-- the variables of the cells are the owner's, and a number is left that is larger than all of
-- theirs
abbrev pub IsCellOf : Owner → Cell → Type 0
IsCellOf owner (cell.App s arity n) = Unit {0}
IsCellOf Query (cell.Query n) = n < 2 ^ 32 - 1
IsCellOf Entry (cell.Entry n) = n < 2 ^ 32 - 1
IsCellOf owner c = ⊥

abbrev pub AreOf : Owner → List Cell → Type 0
AreOf owner = AllByRecursion (IsCellOf owner)

-- one term, whose variables are the owner's, and whose arguments have heads
pub record IsComparable (owner : Owner) (cells : List Cell) : Type 0 where
  pub owned : AreOf owner cells
  pub whole : IsWhole cells
  pub heads : HasHeads cells

-- the owner's variables have numbers below this one
abbrev pub IsNumberedBelow : Owner → ℕ → Cell → Type 0
IsNumberedBelow owner limit (cell.App s arity n) = Unit {0}
IsNumberedBelow Query limit (cell.Query n) = n < limit
IsNumberedBelow Entry limit (cell.Entry n) = n < limit
IsNumberedBelow owner limit c = ⊥

abbrev pub AreNumberedBelow : Owner → ℕ → List Cell → Type 0
AreNumberedBelow owner limit = AllByRecursion (IsNumberedBelow owner limit)

-- the number of arguments
abbrev pub arity_of : Cell → ℕ
arity_of (cell.App s arity n) = arity
arity_of c = 0

-- the slices stand for these terms, one for each
abbrev pub StandForAll : List (Bor (List Cell)) → Terms → Type 0
StandForAll [] terms.none = Unit {0}
StandForAll [] (terms.more t ts) = ⊥
StandForAll (b ∷ bs) terms.none = ⊥
StandForAll (b ∷ bs) (terms.more t ts) = StandsFor b.now t × StandForAll bs ts
