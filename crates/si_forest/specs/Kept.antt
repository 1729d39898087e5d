-- How the trees of an index are kept, and which trees these are.
use Rattle.std.specs.Prelude.{ℕ, ◌≤◌, List, length}
use Rattle.si_defs.specs.declared.TheConstants.{MOST_OCCURRENCES}
use Rattle.si_held.specs.TwoTrees.{TwoTrees, AreLegal}
use Rattle.si_forest.specs.Locations.{Location, AreLocated}
use Rattle.si_forest.specs.Notes.{notes_of, AreSpans}
use Rattle.si_forest.specs.declared.trees.Trees.TheInside.{Inside}
use Rattle.si_forest.specs.Pairs.{two_of}

abbrev pub trees_of : Inside → TwoTrees
trees_of t = two_of t.pair

-- each posting that is stored stands at its location, by its clause's key and its entry
pub record AreNoted (notes : ℕ → List Location) (trees : TwoTrees) : Type 0 where
  pub each : (key : ℕ) → AreLocated key (notes key) trees
  pub few : (key : ℕ) → length (notes key) ≤ MOST_OCCURRENCES

pub record AreKept (t : Inside) : Type 0 where
  pub legal : AreLegal (trees_of t)
  pub spans : AreSpans t.notes
  pub noted : AreNoted (notes_of t.notes) (trees_of t)
