-- What a query passes in its tree, and how many of the kept entries it answers.
use Rattle.std.specs.Prelude.{◌≡◌, ℕ, Bool, List, length}
use Rattle.si_defs.specs.Clauses.{IsSoundPattern, Pattern}
use Rattle.si_defs.specs.Entries.{Placed}
use Rattle.si_defs.specs.declared.Relation.{Relation}
use Rattle.si_flat.specs.Flattened.{FlattensPattern}
use Rattle.si_flat.specs.declared.flatten.FlatQuery.{FlatQuery}
use Rattle.si_legal.specs.Counts.{node_count}
use Rattle.si_held.specs.Queries.{asked_tree, PassesNodes}
use Rattle.si_index.specs.Kept.{Kept}
use Rattle.si_index.specs.Engines.{asks_literals}
use Rattle.si_index.specs.Finding.{AreHits, entries_from_position}
use Rattle.si_index.specs.declared.explain.Explained.{Explained}

pub record Explains (k : Kept) (relation : Relation) (p : Pattern) (e : Explained) : Type 0 where
  pub passed : PassesNodes relation p k.numbers k.trees e.passed
  pub nodes : e.nodes ≡ node_count (asked_tree p k.trees)
  pub hits : List (ℕ × Placed)
  pub are_hits : AreHits relation p (entries_from_position 0 k.clauses) hits
  pub answers : e.answers ≡ length hits

-- the flat query is this pattern's, by the numbers of what is kept
pub record IsQueryOf (k : Kept) (literal : Bool) (q : FlatQuery) (p : Pattern) : Type 0 where
  pub sound : IsSoundPattern p
  pub asks : literal ≡ asks_literals p
  pub flat : FlattensPattern k.numbers p q

-- it is some pattern's
abbrev pub IsSomeQuery : Kept → Bool → FlatQuery → Type 0
IsSomeQuery k literal q = (p : Pattern) × IsQueryOf k literal q p

-- the same as for each pattern whose flat query it is
abbrev pub ExplainsFlat : Kept → Relation → Bool → FlatQuery → Explained → Type 0
ExplainsFlat k relation literal q e =
    (p : Pattern) → IsQueryOf k literal q p → Explains k relation p e
