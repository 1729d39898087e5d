-- Which maps a descent is about: those that make indicator 0 equal to the query, and solve the
-- bindings of a path.
use Rattle.std.specs.Prelude.{◌≡◌, ℕ, ◌↔◌, true, false, List}
use Rattle.std.specs.Borrow.{Bor}
use Rattle.std.specs.List.{AllByRecursion}
use Rattle.si_defs.specs.Terms as terms
use Rattle.si_defs.specs.Substitutions.{Substitution, image, apply}
use Rattle.si_defs.specs.declared.Relation.{Relation}
use Rattle.si_defs.specs.declared.Relation.TheVariants.{Variants, Instances, Generalizations, Unifiable}
use Rattle.si_flat.specs.Cells.{Symbol, Variable, query, ind, same_variable, Term, StandsFor}
use Rattle.si_flat.specs.Flattened.{IsNumberedBy}
use Rattle.si_flat.specs.declared.Cell.{Cell}
use Rattle.si_trail.specs.Trails.{Trail}
use Rattle.si_unify.specs.declared.slots.Slots.{Slots}
use Rattle.si_unify.specs.Solving.{Pairs, IsInRange, IsSolution, AllowsSolving}
use Rattle.si_legal.specs.Bindings.{indicator}
use Rattle.si_legal.specs.Trees.{Node, Tree, HasNode, Path, IsPath}
use Rattle.si_legal.specs.Descents.{SolvesPath}
use Rattle.si_legal.specs.OpenNodes.{RenamesEntry}
use Rattle.si_tree.specs.Reading.{IsNode}
use Rattle.si_fit.specs.Meeting.{LeavesFrozen}

-- ---- slots
-- whose variables are constants
abbrev pub Freezes : Relation → Slots → Type 0
Freezes Unifiable slots = (slots.freeze_query ≡ false) × (slots.freeze_entry ≡ false)
Freezes Instances slots = (slots.freeze_query ≡ false) × (slots.freeze_entry ≡ true)
Freezes Generalizations slots = (slots.freeze_query ≡ true) × (slots.freeze_entry ≡ false)
Freezes Variants slots = (slots.freeze_query ≡ true) × (slots.freeze_entry ≡ false)

-- there is a slot for each variable of the query, and for each on the tree's paths
pub record HasSlotsForTree (slots : Slots) (tree : Tree Term) (q : Term) : Type 0 where
  pub query : AllByRecursion (IsInRange slots) (terms.variables q)
  pub zero : IsInRange slots (ind 0)
  pub nodes : (key : ℕ) (node : Node Term) → HasNode tree key node
      → AllByRecursion
      (λ b. IsInRange slots (ind b.0) × AllByRecursion (IsInRange slots) (terms.variables b.1))
      node.bindings

-- ---- solutions
pub record SolvesFrom (slots : Slots) (q : Term) (path : Path) (s : Substitution Symbol Variable)
    : Type 0 where
  pub frozen : LeavesFrozen slots (image same_variable s)
  pub zero : apply same_variable s (indicator 0) ≡ apply same_variable s q
  pub bindings : SolvesPath s path

-- exactly these maps are solutions of the trail's list
abbrev pub ShowsPath : Slots → Pairs → Term → Path → Type 0
ShowsPath slots pairs q path =
    (s : Substitution Symbol Variable) → IsSolution slots pairs s ↔ SolvesFrom slots q path s

-- what is asked of a map besides
abbrev pub Renames : Relation → Term → Substitution Symbol Variable → Type 0
Renames Variants p s = RenamesEntry (terms.variables p) s
Renames relation p s = Unit {0}

-- a query's variables are numbered from 0 by first occurrence
pub record IsQueryTerm (cells : List Cell) (q : Term) : Type 0 where
  pub stands : StandsFor cells q
  pub numbered : IsNumberedBy query q

abbrev pub AreQueryCells : List Cell → Type 0
AreQueryCells cells = (q : Term) × IsQueryTerm cells q

-- ---- where a descent begins
abbrev pub HasSlotsForDescent : Slots → Tree Term → List Cell → Type 0
HasSlotsForDescent slots tree cells = (q : Term) → StandsFor cells q → HasSlotsForTree slots tree q

-- the bindings of the nodes above this one are solved, for the query in these cells
abbrev pub ShowsAbove : Slots → Pairs → Tree Term → ℕ → List Cell → Type 0
ShowsAbove slots pairs tree key cells =
    (node : Node Term) (above : Path) (q : Term)
    → HasNode tree key node → IsPath tree node.parent above → StandsFor cells q
    → ShowsPath slots pairs q above

-- A descent may begin at this node: the query's variables are numbered, there are slots for all
-- that can come up, and on the trail the bindings of the nodes above are solved, over indicator 0
-- for the query.
pub record MayDescend (tree : Tree Term) (key : ℕ) (relation : Relation) (cells : List Cell)
    (slots : Slots) (trail : Trail (Bor (List Cell))) : Type 0 where
  pub node : IsNode tree key
  pub query : AreQueryCells cells
  pub freezes : Freezes relation slots
  pub room : HasSlotsForDescent slots tree cells
  pub solving : AllowsSolving slots trail.pairs trail.slots
  pub above : ShowsAbove slots trail.pairs tree key cells
